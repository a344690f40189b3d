-- Which lemma files show which law; what they stand on themselves is in their imports.
--   boards_are_sound                  runs.AllInvariants
--   certificates_order                runs.Certificates
--   closed_processes_rest             closing.RestInRuns, closing.StillClosed
--   commits_change_the_board          commits.Progress
--   commits_stay_within_the_budget    labels.LivingNames
--   complete_is_good                  closing.Completed
--   facts_hold                        runs.KnownFacts
--   flight_is_in_order                tickets.NoClash, labels.LivingNames
--   journals_decide_runs              journals.OneRun
--   labels_name_the_living            labels.LivingLabels
--   legal_runs_are_possible           runs.Selections
--   living_names_come_of_forks        labels.LivingNames
--   moves_decide_runs                 journals.MovesDecide
--   one_worker_has_one_journal        journals.OneWorker
--   opening_is_reached                runs.Openings
--   origins_are_of_form               nodes.OriginForms
--   pairs_are_within_limits           nodes.Sizes
--   pairs_stay                        nodes.DistinctPairs, runs.LawsStated
--   runs_complete                     runs.AllFine, and commits.* below it: what each commit is for each process
--   sixty_four_are_worked_on          labels.AtMostSixtyFour
--   tickets_are_dropped_after_commits tickets.Drops
--   verdicts_stay                     runs.Endings, runs.Meanings
--   work_goes_on                      runs.Endings, runs.LawsStated, labels.AtMostSixtyFour
pub mod Lists
pub mod runs
pub mod journals
pub mod tickets
pub mod nodes
pub mod commits
pub mod closing
pub mod labels
pub mod rows
