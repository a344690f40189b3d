-- A commit and the board that it makes.
use Rattle.std.proofs.Common.{ℕ, ◌+◌, ◌≡◌, ◌≢◌, refl, sym, ap, ap₂, ◌∙◌, subst, List, [], ◌∷◌, Contains, Option, Some, None}
use Rattle.std.specs.Prelude.{sum_by}
use Rattle.std.specs.Option.{option_map_or}
use Rattle.std.proofs.lemmas.List.Sums.{sum_by-cons}
use Rattle.kb_lemmas.proofs.Membership.{contains_first, contains_behind}
use Rattle.kb_term.specs.Pair.{Pair}
use Rattle.kb_term.specs.declared.origin.RuleRef.{RuleRef}
use Rattle.kb_label.specs.Names.{Name, has}
use Rattle.kb_label.specs.declared.verdict.Reason.{Reason}
use Rattle.kb_node.specs.declared.job.Job.{Job}
use Rattle.kb_node.specs.declared.job.Job.TheVariants.{Reduce, Orient, Overlap, Close}
use Rattle.mkb_model.specs.Jobs.{process_of}
use Rattle.mkb_model.specs.Plain.{Plain, constraints_of, cost, counted_rules, equations_of, job_nodes, node_size, pair_size, rule_sizes, weight, weight_by}
use Rattle.mkb_model.specs.DueJobs.{is_working, is_work_due}
use Rattle.mkb_model.specs.Effects.{acted, applied, counted, effect, effect_label, give_up, limit_of}
use Rattle.mkb_model.specs.Journals.{IsCommitting, IsFreeJob, landed}
use Rattle.mkb_model.specs.Ready.{KeepsPairs}
use Rattle.mkb_model.specs.declared.entry.Effect.{Effect}
use Rattle.mkb_model.specs.declared.entry.Effect.TheVariants.{Over as OverFor, Made}
use Rattle.mkb_model.specs.declared.entry.Entry.TheVariants.{Commit as Committing}
use Rattle.mkb_model.specs.declared.proposed.Proposed.{Proposed}
use Rattle.mkb_model.specs.declared.settings.Selection.{Selection}
use Rattle.mkb_model.specs.declared.settings.Selection.TheVariants.{Stated, Size as BySize}
use Rattle.mkb_model.specs.declared.settings.Settings.{Settings}
use Rattle.mkb_model.proofs.commits.Views.{there_pair}
use Rattle.mkb_model.proofs.labels.LivingNames.{effect_setting}
use Rattle.mkb_model.proofs.nodes.DistinctPairs.{pairs_follow}
use Rattle.mkb_rules.specs.Applying.{applied_as}
use Rattle.mkb_rules.specs.declared.applied.Applied.TheVariants.{Done, Over}
use Rattle.mkb_pick.specs.declared.task.Work.{Work}
use Rattle.mkb_pick.specs.Tasks.{job_of, work_of}
use Rattle.mkb_pick.proofs.Viewed.{process_again}
use Rattle.mkb_agenda.specs.Agendas.{IsDueJob}
use Rattle.mkb_agenda.specs.Looking.{ComesFrom}
use Rattle.mkb_agenda.specs.Following.{IsCommitOn}
use Rattle.mkb_agenda.specs.declared.following.Commit.{Commit}
use Rattle.mkb_agenda.proofs.DueJobs.{IsProper, due_is, nodes_there}
use Rattle.mkb_agenda.proofs.Alike.{own_work, work_listed}

-- a sum is the same where each part is
sum_same : {X : Type 0} (f g : X → ℕ) (xs : List X) → ((x : X) → Contains xs x → f x ≡ g x) → sum_by f xs ≡ sum_by g xs
sum_same f g [] h = refl
sum_same f g (x ∷ xs) h = sum_by-cons f x xs ∙ ap₂ (λ (m n : ℕ). m + n) (h x (contains_first x xs)) (sum_same f g xs (λ y i. h y (contains_behind x xs y i))) ∙ sym (sum_by-cons g x xs)

weighs_same : (b c : Plain) (by : Selection) (j : Job) → ((m : ℕ) → Contains (job_nodes j) m → node_size c m ≡ node_size b m) → weight_by by c j ≡ weight_by by b j
weighs_same b c Stated j h = refl
weighs_same b c BySize j h = sum_same (node_size c) (node_size b) (job_nodes j) h

none_met : (o : Option Reason) → applied_as o ≡ Done → o ≡ None
none_met None e = refl
none_met (Some r) e = absurd (cc)

reason_met : (o : Option Reason) (r : Reason) → applied_as o ≡ Over r → o ≡ Some r
reason_met None r e = absurd (cc)
reason_met (Some s) r e = ap Some (cc)

-- work does not ask who sleeps and what is in flight
same_work : (d e : Plain) (j : Job) → is_work_due (record d { asleep = e.asleep; flight = e.flight }) j ≡ is_work_due d j
same_work d e (Reduce p n) = refl
same_work d e (Orient p n) = refl
same_work d e (Overlap p a f) = refl
same_work d e (Close p) = refl

-- nor does a cost
same_cost : (d e : Plain) (p : Name) → cost (record d { asleep = e.asleep; flight = e.flight }) p ≡ cost d p
same_cost d e p = ap (λ (rs : List RuleRef). (sum_by (node_size d) (equations_of d p) + rule_sizes d (constraints_of d p)) + rule_sizes d rs) (go d.settings.selection)
  where
    go : (by : Selection) → counted_rules by (record d { asleep = e.asleep; flight = e.flight }) p ≡ counted_rules by d p
    go Stated = refl
    go BySize = refl

module _ (b c : Plain) (x : Commit) (k : IsCommitOn b x c) where
  abbrev y : Proposed
  y = k.commit.proposal

  -- the same commit, where its entry is told
  abbrev pub as_effect : (e : Effect) → k.effect ≡ e → IsCommitting k.past b k.worker k.ticket e k.next
  as_effect e h = record { job = k.commit.job; proposal = k.commit.proposal; finishing = k.commit.finishing; acts = k.commit.acts; names_effect = sym h ∙ k.commit.names_effect; leads_to = k.commit.leads_to }

  pub none_limits : x.applied ≡ Done → limit_of b y ≡ None
  none_limits e = none_met (limit_of b y) (sym k.applied ∙ e)

  pub stops : (r : Reason) → x.applied ≡ Over r → k.effect ≡ OverFor r
  stops r e = k.commit.names_effect ∙ ap (λ (o : Option Reason). option_map_or OverFor o (Made y)) (reason_met (limit_of b y) r (sym k.applied ∙ e))

  module _ (e : x.applied ≡ Done) (z : Proposed) (f : x.proposal.now ≡ z) where
    pub makes_it : k.effect ≡ Made z
    makes_it = k.commit.names_effect ∙ ap (λ (o : Option Reason). option_map_or OverFor o (Made y)) (none_limits e) ∙ ap Made (sym k.proposal ∙ f)

    pub made : IsCommitting k.past b k.worker k.ticket (Made z) k.next
    made = as_effect (Made z) makes_it

    pub board_is : c ≡ record (counted (applied b z)) { flight = [] }
    board_is = k.makes ∙ ap (λ (o : Option Reason). record (counted (option_map_or (λ r. give_up r (effect_label b y) b) o (applied b y))) { flight = [] }) (none_limits e)
        ∙ ap (λ (w : Proposed). record (counted (applied b w)) { flight = [] }) (sym k.proposal ∙ f)

  -- what is the same on the next board is so on this one, if it asks neither who sleeps nor what is in flight
  pub on_board : {A : Type 0} (f : Plain → A) → f (record (acted b y) { flight = [] }) ≡ f (landed k.ticket (effect b y)) → f c ≡ f k.next
  on_board f h = ap f k.makes ∙ h ∙ sym (ap f k.commit.leads_to)

  pub work_next : (j : Job) → is_work_due c j ≡ is_work_due k.next j
  work_next j = on_board (λ z. is_work_due z j) (same_work (acted b y) (record (acted b y) { flight = [] }) j ∙ sym (same_work (acted b y) (landed k.ticket (effect b y)) j))

  pub cost_next : (p : Name) → cost c p ≡ cost k.next p
  cost_next p = on_board (λ z. cost z p) (same_cost (acted b y) (record (acted b y) { flight = [] }) p ∙ sym (same_cost (acted b y) (landed k.ticket (effect b y)) p))

  pub keeps : KeepsPairs b.nodes c.nodes
  keeps = subst (λ xs. KeepsPairs b.nodes xs) (sym (on_board (λ (z : Plain). z.nodes) refl)) (pairs_follow IsFreeJob k.past b (Committing k.worker k.ticket k.effect) k.next k.commit)

  pub weights : (j : Job) → IsDueJob b j → weight c j ≡ weight b j
  weights j d = ap (λ (z : Settings). weight_by z.selection c j) (ap (λ (z : Plain). z.settings) k.makes ∙ (effect_setting b y).1)
      ∙ weighs_same b c b.settings.selection j (λ m i. let r = there_pair b.nodes m (nodes_there b j (due_is b j d).0 m i) in ap (λ (o : Option Pair). option_map_or pair_size o 0) (keeps m r.0 r.1 ∙ sym r.1))

  pub comes : (p q : Name) (js : List Job) → is_working c q ≡ is_working b p → has c.asleep q ≡ has b.asleep p
      → ((j : Job) → process_of j ≡ q → j ≢ Close q → ¬ Contains js j → IsProper j → is_work_due c j ≡ is_work_due b (job_of p (work_of j))) → ComesFrom b p c q js
  comes p q js works sleeps h = record { working = works; asleep = sleeps; differs = record { jobs = λ j e l o. work_listed b c p q works j e l (h j e l o); weights = weights } }

  -- the process itself, of whose work only these jobs may change
  pub comes_by : (p : Name) (js : List Job) → is_working c p ≡ is_working b p → has c.asleep p ≡ has b.asleep p
      → ((w : Work) → ¬ Contains js (job_of p w) → IsProper (job_of p w) → is_work_due k.next (job_of p w) ≡ is_work_due b (job_of p w)) → ComesFrom b p c p js
  comes_by p js works sleeps h = comes p p js works sleeps (λ j e _.
      subst {A = Job} (λ i. ¬ Contains js i → IsProper i → is_work_due c i ≡ is_work_due b (job_of p (work_of j))) (own_work p j e) (λ o d. work_next (job_of p (work_of j)) ∙ h (work_of j) o d))

  -- the same, told by the jobs
  pub comes_on : (p : Name) (js : List Job) → is_working c p ≡ is_working b p → has c.asleep p ≡ has b.asleep p
      → ((j : Job) → process_of j ≡ p → ¬ Contains js j → is_work_due k.next j ≡ is_work_due b j) → ComesFrom b p c p js
  comes_on p js works sleeps h = comes_by p js works sleeps (λ w o _. h (job_of p w) (process_again p w) o)
