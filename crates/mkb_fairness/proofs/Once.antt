-- While an overlap waits no overlap of its process is taken twice.
use Rattle.std.proofs.Common.{◌≡◌, ◌≢◌, refl, sym, ap, ◌∙◌, subst, arith, List, [], ◌∷◌, ◌++◌, filter, Contains, Bool, true, false, cond, get_or, Option, Some, None, ⊎_elim}
use Rattle.std.specs.List.{filter_map, cons_option}
use Rattle.std.proofs.lemmas.List.Elements.{Contains-get_or}
use Rattle.std.proofs.lemmas.List.Kept.{AllPairs-cons}
use Rattle.kb_lemmas.proofs.Membership.{contains_cases, contains_behind, contains_first, none_in}
use Rattle.kb_lemmas.proofs.Options.{none_some}
use Rattle.kb_term.specs.Signature.{Problem}
use Rattle.kb_term.specs.declared.origin.RuleRef.{RuleRef}
use Rattle.kb_label.specs.Names.{Name, has}
use Rattle.kb_node.specs.declared.job.Job.{Job}
use Rattle.kb_node.specs.declared.job.Job.TheVariants.{Overlap}
use Rattle.mkb_model.specs.Plain.{Plain, done_of}
use Rattle.mkb_model.specs.DueJobs.{is_due}
use Rattle.mkb_model.specs.Journals.{Moment, IsRun, IsFirstJob}
use Rattle.mkb_model.specs.declared.settings.Settings.{Settings}
use Rattle.mkb_model.proofs.Lists.{clash}
use Rattle.mkb_model.proofs.runs.Selections.{first-free}
use Rattle.mkb_fairness.specs.Fairness.{StaysDue, AreDifferent, Waits, taken_by, is_overlap_of, overlaps_taken}
use Rattle.mkb_fairness.proofs.Turns.{AreTurns, turns, ended, newest_ended, taken_on}
use Rattle.mkb_fairness.proofs.Overlaps.{due_overlap, free_overlap, due_lives, due_not_over, due_not_done, overlap_of, taken_at}
use Rattle.mkb_fairness.proofs.Noted.{turn_keeps, turn_notes}

module _ (P : Problem) (n : Settings) (earlier : List Moment) (p : Name) (a c : RuleRef) where
  -- the job that waits is due on the board of each moment
  is_due_at : (stretch : List Moment) → StaysDue (Overlap p a c) stretch → (m : Moment) → Contains stretch m → is_due m.board (Overlap p a c) ≡ true
  is_due_at stretch stays m i = (due_overlap m.board p a c (stays m i)).due

  -- an overlap that is taken is due
  taken_due : (ms : List Moment) (b : Plain) → IsRun P n ms b → AreTurns ms → (m : Moment) → Contains ms m → (d e : RuleRef) → taken_by m.entry ≡ Some (Overlap p d e) → is_due m.board (Overlap p d e) ≡ true
  taken_due ms b run whole m i d e takes = (free_overlap m.board p d e (first-free m.board (Overlap p d e) (taken_on P n ms b run whole m i (Overlap p d e) takes).first)).1.due

  -- after whole turns, on a board on which the job is due, each overlap of its process that was taken in the stretch is noted
  all_noted : (stretch : List Moment) (b : Plain) → IsRun P n (stretch ++ earlier) b → AreTurns (stretch ++ earlier) → StaysDue (Overlap p a c) stretch → is_due b (Overlap p a c) ≡ true
      → (l : Moment) → Contains stretch l → (d e : RuleRef) → taken_by l.entry ≡ Some (Overlap p d e) → has (done_of b d e) p ≡ true
  all_noted [] b run whole stays due l i d e takes = none_in i
  all_noted (m ∷ []) b run whole stays due l i d e takes = ⊎_elim
      (λ q. none_some (sym (newest_ended m earlier whole) ∙ ap (λ (z : Moment). taken_by z.entry) q ∙ takes))
      (λ k. none_in k)
      (contains_cases m [] l i)
  all_noted (m ∷ k ∷ rest) b ((run, f), g) (turn, whole) stays due l i d e takes = ⊎_elim
      (λ q. none_some (sym (ended k.entry m.entry turn) ∙ ap (λ (z : Moment). taken_by z.entry) q ∙ takes))
      (λ j. ⊎_elim now (λ u. before (all_noted rest k.board run whole (λ z v. stays z (contains_behind m (k ∷ rest) z (contains_behind k rest z v))) then_due l u d e takes)) (contains_cases k rest l j))
      (contains_cases m (k ∷ rest) l i)
    where
      then_due : is_due k.board (Overlap p a c) ≡ true
      then_due = is_due_at (m ∷ k ∷ rest) stays k (contains_behind m (k ∷ rest) k (contains_first k rest))

      now : k ≡ l → has (done_of b d e) p ≡ true
      now q =
          let here : taken_by k.entry ≡ Some (Overlap p d e) = ap (λ (z : Moment). taken_by z.entry) q ∙ takes in
          turn_notes P n (rest ++ earlier) k.board k.entry m.board m.entry b turn run f g p d e here
          (taken_due (m ∷ k ∷ rest ++ earlier) b ((run, f), g) (turn, whole) k (contains_behind m (k ∷ rest ++ earlier) k (contains_first k (rest ++ earlier))) d e here)
          (due_not_over b p a c due)

      before : has (done_of k.board d e) p ≡ true → has (done_of b d e) p ≡ true
      before = turn_keeps (rest ++ earlier) k.board k.entry m.board m.entry b turn f g p d e (due_lives k.board p a c then_due) (due_lives b p a c due)

  -- the newest take of a stretch is of another overlap than those before
  newest_differs : (k : Moment) (rest : List Moment) → IsRun P n (rest ++ earlier) k.board → AreTurns (rest ++ earlier) → StaysDue (Overlap p a c) (k ∷ rest) → (i : Job) → IsFirstJob k.board i → is_overlap_of p i ≡ true → (j : Job) → Contains (overlaps_taken p rest) j → i ≢ j
  newest_differs k rest run whole stays i first of_p j there q =
      let o = overlap_of p i of_p in
      let t = taken_at p rest j there in
      let due = (free_overlap k.board p o.0 o.1 (first-free k.board (Overlap p o.0 o.1) (subst {A = Job} (IsFirstJob k.board) o.2 first))).1.due in
      clash
      (all_noted rest k.board run whole (λ z u. stays z (contains_behind k rest z u)) (is_due_at (k ∷ rest) stays k (contains_first k rest)) t.0 t.1 o.0 o.1 (t.2 ∙ ap Some (sym q ∙ o.2)))
      (due_not_done k.board p o.0 o.1 due)

  none_twice : AreDifferent []
  none_twice i j d l h = absurd (omega (arith, h))

  -- with one job more in front, which differs from all where it is an overlap of the process
  one_more : (o : Option Job) (jobs : List Job) → ((i : Job) → o ≡ Some i → is_overlap_of p i ≡ true → (j : Job) → Contains (filter (is_overlap_of p) jobs) j → i ≢ j) → AreDifferent (filter (is_overlap_of p) jobs) → AreDifferent (filter (is_overlap_of p) (cons_option o jobs))
  one_more None jobs h rest = rest
  one_more (Some i) jobs h rest = go (is_overlap_of p i) refl
    where
      go : (z : Bool) → is_overlap_of p i ≡ z → AreDifferent (cond z (i ∷ filter (is_overlap_of p) jobs) (filter (is_overlap_of p) jobs))
      go true e = AllPairs-cons (λ (x y : Job). x ≢ y) i (filter (is_overlap_of p) jobs) (λ k d l. h i refl e (get_or (filter (is_overlap_of p) jobs) k d) (Contains-get_or (filter (is_overlap_of p) jobs) k d l)) rest
      go false e = rest

  different : (stretch : List Moment) (b : Plain) → IsRun P n (stretch ++ earlier) b → AreTurns (stretch ++ earlier) → StaysDue (Overlap p a c) stretch → AreDifferent (overlaps_taken p stretch)
  different [] b run whole stays = none_twice
  different (m ∷ []) b run whole stays = subst {A = Option Job} (λ o. AreDifferent (filter (is_overlap_of p) (cons_option o []))) (sym (newest_ended m earlier whole)) none_twice
  different (m ∷ k ∷ rest) b ((run, f), g) (turn, whole) stays = subst {A = Option Job} (λ o. AreDifferent (filter (is_overlap_of p) (cons_option o (cons_option (taken_by k.entry) (filter_map (λ (z : Moment). taken_by z.entry) rest))))) (sym (ended k.entry m.entry turn))
      (one_more (taken_by k.entry) (filter_map (λ (z : Moment). taken_by z.entry) rest)
      (λ i e of_p j there. newest_differs k rest run whole (λ z u. stays z (contains_behind m (k ∷ rest) z u)) i
      (taken_on P n (m ∷ k ∷ rest ++ earlier) b ((run, f), g) (turn, whole) k (contains_behind m (k ∷ rest ++ earlier) k (contains_first k (rest ++ earlier))) i e).first of_p j there)
      (different rest k.board run whole (λ z u. stays z (contains_behind m (k ∷ rest) z (contains_behind k rest z u)))))

-- no overlap is taken twice in the stretch
pub taken_once : (P : Problem) (n : Settings) (stretch earlier : List Moment) (b : Plain) (p : Name) (a c : RuleRef) → Waits P n (Overlap p a c) stretch earlier b → AreDifferent (overlaps_taken p stretch)
taken_once P n stretch earlier b p a c waits = different P n earlier p a c stretch b waits.run (turns (stretch ++ earlier) waits.in_turn) waits.stays_due
