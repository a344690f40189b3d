-- What rewritings and new pairs leave of the jobs of each process.
use Rattle.std.proofs.Common.{Option, unwrap_or, ℕ, ◌≡◌, inl, inr, ⊎_elim, refl, sym, ap, ◌∙◌, subst, List, [], ◌∷◌, true, Some, Contains}
use Rattle.std.proofs.lemmas.List.Elements.{Contains-append_left, Contains-append_right}
use Rattle.kb_lemmas.proofs.Membership.{contains_first}
use Rattle.kb_lemmas.proofs.Options.{some_is}
use Rattle.kb_term.specs.Tree.{Tree}
use Rattle.kb_term.specs.Pair.{Pair}
use Rattle.kb_term.specs.View.{tree_of}
use Rattle.kb_term.specs.declared.term.Term.{Term}
use Rattle.kb_term.specs.declared.origin.RuleRef.{RuleRef}
use Rattle.kb_term.specs.declared.origin.Found.{Found}
use Rattle.kb_overlap.specs.Trace.{other_side}
use Rattle.kb_label.specs.Names.{Name, has}
use Rattle.kb_node.specs.declared.node.NodeId.{NodeId}
use Rattle.kb_node.specs.declared.job.Deduced.{Deduced}
use Rattle.kb_node.specs.declared.job.Job.{Job}
use Rattle.kb_node.specs.declared.job.Job.TheVariants.{Overlap, Reduce}
use Rattle.mkb_model.specs.Plain.{Plain, known, pair_at}
use Rattle.mkb_model.specs.DueJobs.{is_working}
use Rattle.mkb_model.specs.Effects.{applied, counted, effect_label, rewrite_label}
use Rattle.mkb_model.specs.Journals.{IsCommitting}
use Rattle.mkb_model.specs.Ready.{OneRole}
use Rattle.mkb_model.specs.declared.entry.Effect.TheVariants.{Made}
use Rattle.mkb_model.specs.declared.proposed.Proposed.{Proposed}
use Rattle.mkb_model.specs.declared.proposed.Proposed.TheVariants.{Rewrite, Deduce, Unjoined}
use Rattle.mkb_model.proofs.Lists.{clash}
use Rattle.mkb_model.proofs.runs.AllFine.{goes}
use Rattle.mkb_moves.specs.Moves.{IsNodeOf, RewritesLabel}
use Rattle.mkb_moves.specs.Changes.{IsOnPairs, LeavesLabelsWork, LeavesWorkElsewhere, OpensPairs, EndsOverlap}
use Rattle.mkb_rules.specs.Rewriting.{LeadsFrom, LeadsTo}
use Rattle.mkb_rules.specs.declared.applied.Applied.TheVariants.{Done}
use Rattle.mkb_pick.specs.declared.task.Work.{Work}
use Rattle.mkb_pick.specs.declared.task.Work.TheVariants.{Reducing, Orienting, Overlapping, Closing}
use Rattle.mkb_pick.specs.Tasks.{job_of}
use Rattle.mkb_pick.proofs.Viewed.{process_again}
use Rattle.mkb_agenda.specs.Looking.{ComesFrom, is_gained, jobs_on}
use Rattle.mkb_agenda.specs.Following.{AreNodesOf, ComesByRewriting, IsCommitOn, jobs_by_overlap, jobs_by_nodes, rules_at_both}
use Rattle.mkb_agenda.specs.declared.following.Commit.{Commit}
use Rattle.mkb_agenda.proofs.Committed.{made, board_is, on_board, keeps, comes_by, work_next}
use Rattle.mkb_agenda.proofs.NodeWork.{KeepsElsewhere, gained_aside, rewriting_keeps, equation_work, rule_work, reduce_on, orient_on}
use Rattle.mkb_moves.proofs.OpenedWork.{deduce_opens, unjoined_opens}
use Rattle.mkb_moves.proofs.Rewriting.{rewriting_moves}
use Rattle.mkb_moves.proofs.RewrittenWork.{rewriting_leaves}

-- a job that is not looked at again is on no pair
off_pairs : (c : Plain) (pairs : List Deduced) (ns : List NodeId) → AreNodesOf c pairs ns → (p : Name) (w : Work) → ¬ Contains (jobs_on p ns) (job_of p w) → ¬ IsOnPairs c pairs (job_of p w)
off_pairs c pairs ns nodes p (Reducing n) out i = out (reduce_on p ns n (nodes n.0 i))
off_pairs c pairs ns nodes p (Orienting n) out i = out (orient_on p ns n (nodes n.0 i))
off_pairs c pairs ns nodes p (Overlapping e f) out i = i
off_pairs c pairs ns nodes p Closing out i = i

module _ (b c : Plain) (x : Commit) (k : IsCommitOn b x c) where
  named : (y : Proposed) → x.proposal.now ≡ y → (p : Name) → has x.names.now p ≡ true → has (effect_label b y) p ≡ true
  named y f p h = sym (ap (λ l. has l p) (k.names ∙ ap (effect_label b) (sym k.proposal ∙ f))) ∙ h

  same_pair : (m : ℕ) → pair_at c m ≡ pair_at k.next m
  same_pair m = on_board b c x k (λ z. pair_at z m) refl

  same_nodes : (pairs : List Deduced) (ns : List NodeId) → AreNodesOf c pairs ns → AreNodesOf k.next pairs ns
  same_nodes pairs ns nodes m o = nodes m (o.0, o.1, same_pair m ∙ o.2)

  -- the node that is told is that of the result and the side that stayed
  pub told : x.applied ≡ Done → (n : NodeId) (w : ℕ) (at : List ℕ) (a : RuleRef) (found : Found) (t : Term) → x.proposal.now ≡ Rewrite n w at a found t
      → (q : Pair) (m : ℕ) → pair_at c n.0 ≡ Some q → IsNodeOf c (tree_of t) (other_side q w) m → x.target ≡ Some (record { 0 = m })
  told e n w at a found t f q m there o =
      let leads : LeadsFrom c n.0 w (tree_of t) x.target = subst {A = Proposed} (λ z. LeadsTo c z x.target) (sym k.proposal ∙ f) (k.target e) in
      leads.target q o.0 m there o.1 o.2

  pub rewrite_comes : x.applied ≡ Done → (n : NodeId) (w : ℕ) (at : List ℕ) (a : RuleRef) (found : Found) (t : Term) → x.proposal.now ≡ Rewrite n w at a found t
      → (p : Name) → has x.names.now p ≡ true → ComesByRewriting b c n (unwrap_or x.target n) p
  rewrite_comes e n w at a found t f p h = record {
    equation = λ on. comes_by b c x k p (jobs_on p (n ∷ m ∷ [])) works sleeps (λ i out _. equation_work b k.next p n m w rest (tree_of t) one here leaves kept on i out);
    rule = subst {A = List Job} (ComesFrom b p c p) (sym (on_board b c x k (λ z. jobs_by_nodes z p n m) refl)) (comes_by b c x k p (jobs_by_nodes k.next p n m) works sleeps (rule_work b k.next p n m w rest (tree_of t) one here leaves kept));
    reduces = record {
      gained = λ i out d. ⊎_elim (λ h. inl h) (λ h. inr (on_board b c x k (λ z. is_gained z p (rules_at_both n m) i.0) refl ∙ h))
          (gained_aside b k.next p n m w rest (tree_of t) one here leaves kept (λ i v r. sym (on_board b c x k (λ z. known z i v r) refl) ∙ ap (λ z. known z i v r) board) i out (sym (work_next b c x k (Reduce p i)) ∙ d));
      kept = λ e. clash refl e;
    };
  }
    where
      y : Proposed
      y = Rewrite n w at a found t

      m : NodeId
      m = unwrap_or x.target n

      board : c ≡ record (counted (applied b y)) { flight = [] }
      board = board_is b c x k e y f

      works : is_working c p ≡ is_working b p
      works = ap (λ z. is_working z p) board

      sleeps : has c.asleep p ≡ has b.asleep p
      sleeps = ap (λ (z : Plain). has z.asleep p) board

      commit : IsCommitting k.past b k.worker k.ticket (Made y) k.next
      commit = made b c x k e y f

      moved : RewritesLabel b k.next n w a found t
      moved = rewriting_moves k.problem k.settings k.past b k.within k.run k.worker k.ticket n w at a found t k.next commit

      left : LeavesLabelsWork b k.next n w a found t
      left = rewriting_leaves k.problem k.settings k.past b k.within k.run k.worker k.ticket n w at a found t k.next commit

      rest : Tree
      rest = other_side left.0 w

      by : has (rewrite_label b n.0 w a found) p ≡ true
      by = named y f p h

      leaves : LeavesWorkElsewhere b k.next p n.0 w rest (tree_of t)
      leaves = left.2 p by

      kept : KeepsElsewhere b k.next p n.0 rest (tree_of t)
      kept = subst {A = Pair} (λ q. KeepsElsewhere b k.next p n.0 (other_side q w) (tree_of t)) (some_is (sym moved.1 ∙ left.1)) (rewriting_keeps b k.next p n.0 w a found moved.0 (tree_of t) (moved.2 p by))

      one : OneRole b.nodes p
      one = (goes k.problem k.settings k.past b k.within k.run).1 p

      here : (i : ℕ) → IsNodeOf k.next (tree_of t) rest i → i ≡ m.0
      here i o = sym (ap (λ (z : Option NodeId). (unwrap_or z n).0) (told e n w at a found t f left.0 i (keeps b c x k n.0 left.0 left.1) (o.0, o.1, same_pair i ∙ o.2)))

  pub deduce_comes : x.applied ≡ Done → (a d : RuleRef) (pairs : List Deduced) → x.proposal.now ≡ Deduce a d pairs → (ns : List NodeId) → AreNodesOf c pairs ns → (p : Name) → has x.names.now p ≡ true → ComesFrom b p c p (jobs_by_overlap p a d ns)
  deduce_comes e a d pairs f ns nodes p h = comes_by b c x k p (jobs_by_overlap p a d ns) (ap (λ z. is_working z p) board) (ap (λ (z : Plain). has z.asleep p) board) (λ w out _.
      opened.elsewhere (job_of p w) (process_again p w) (λ i. out (subst {A = Job} (Contains (jobs_by_overlap p a d ns)) (sym i) (Contains-append_right (jobs_on p ns) (Overlap p a d ∷ []) (Overlap p a d) (contains_first (Overlap p a d) []))))
      (off_pairs k.next pairs ns (same_nodes pairs ns nodes) p w (λ i. out (Contains-append_left (jobs_on p ns) (Overlap p a d ∷ []) (job_of p w) i))))
    where
      board : c ≡ record (counted (applied b (Deduce a d pairs))) { flight = [] }
      board = board_is b c x k e (Deduce a d pairs) f

      opened : EndsOverlap b k.next p a d pairs
      opened = deduce_opens k.problem k.settings k.past b k.run k.worker k.ticket a d pairs k.next (made b c x k e (Deduce a d pairs) f) p (named (Deduce a d pairs) f p h)

  pub unjoined_comes : x.applied ≡ Done → (p : Name) (pairs : List Deduced) → x.proposal.now ≡ Unjoined p pairs → (ns : List NodeId) → AreNodesOf c pairs ns → ComesFrom b p c p (jobs_on p ns)
  unjoined_comes e p pairs f ns nodes = comes_by b c x k p (jobs_on p ns) (ap (λ z. is_working z p) board) (ap (λ (z : Plain). has z.asleep p) board)
      (λ w out _. opened.elsewhere (job_of p w) (process_again p w) (off_pairs k.next pairs ns (same_nodes pairs ns nodes) p w out))
    where
      board : c ≡ record (counted (applied b (Unjoined p pairs))) { flight = [] }
      board = board_is b c x k e (Unjoined p pairs) f

      opened : OpensPairs b k.next p pairs
      opened = unjoined_opens k.problem k.settings k.past b k.run k.worker k.ticket p pairs k.next (made b c x k e (Unjoined p pairs) f)
