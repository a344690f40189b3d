-- Reducings of which what is due is listed but for what some rules make due.
use Rattle.std.proofs.Common.{◌≡◌, inl, inr, ⊎_elim, refl, sym, ◌∙◌, List, [], true}
use Rattle.std.proofs.lemmas.Bool.{and_from}
use Rattle.kb_lemmas.proofs.Booleans.{and_gives_right}
use Rattle.kb_label.specs.Names.{Name}
use Rattle.kb_node.specs.declared.node.NodeId.{NodeId}
use Rattle.kb_node.specs.declared.job.Job.{Job}
use Rattle.kb_node.specs.declared.job.Job.TheVariants.{Reduce}
use Rattle.mkb_model.specs.Plain.{Plain, weight}
use Rattle.mkb_model.specs.DueJobs.{is_working, is_work_due}
use Rattle.mkb_pick.specs.Listings.{Listed, IsProcess, HasJob}
use Rattle.mkb_agenda.specs.Agendas.{IsDueJob, IsListedAs}
use Rattle.mkb_agenda.specs.Looking.{IsNearlyListed, ListsAnew, Reach, ReducesBy, jobs_on}
use Rattle.mkb_agenda.proofs.DueJobs.{due_is, is_listed_due}
use Rattle.mkb_agenda.proofs.Anew.{jobs_listed}
use Rattle.mkb_agenda.proofs.Again.{weight_for}
use Rattle.mkb_agenda.proofs.NodeWork.{reduce_on}

-- a process that is listed as on board b is so, where it comes from there by the rules
pub nearly_by : (b : Plain) (p : Name) (c : Plain) (q : Name) (r : Reach) (ps : List Listed) → IsListedAs b p q ps → IsProcess ps q → ((j : Job) → IsDueJob b j → weight c j ≡ weight b j) → ReducesBy b p c q r → IsNearlyListed c q r ps
nearly_by b p c q r ps l there weights k = record {
  gained = λ n out d. ⊎_elim (λ e. inl (had n e)) (λ g. inr g) (k.gained n out d);
  kept = λ e n out h. k.kept e n out (and_gives_right (is_working b p) (is_work_due b (Reduce p n)) (due_is b (Reduce p n) ((l.jobs (Reduce q n) (weight c (Reduce q n)) refl).0 h).0).0);
}
  where
    works : is_working b p ≡ true
    works = ((l.listed there.0.cost there.0.resting).0 (there.0, there.1, there.2, refl, refl)).0

    had : (n : NodeId) → is_work_due b (Reduce p n) ≡ true → HasJob ps (Reduce q n) (weight c (Reduce q n))
    had n e =
        let due : IsDueJob b (Reduce p n) = is_listed_due b (Reduce p n) (and_from (is_working b p) (is_work_due b (Reduce p n)) works e) tt in
        (l.jobs (Reduce q n) (weight c (Reduce q n)) refl).1 (due, sym (weight_for c p (Reduce q n)) ∙ weights (Reduce p n) due ∙ weight_for b p (Reduce q n))

module _ (c : Plain) (q : Name) (r : Reach) (js : List Job) (ps ms : List Listed) (anew : ListsAnew c js ps ms) (k : IsNearlyListed c q r ps) where
  -- it is still so where jobs have been looked at
  pub nearly_after : IsNearlyListed c q r ms
  nearly_after = record {
    gained = λ n out d. ⊎_elim (λ h. inl (⊎_elim (λ i. (anew (Reduce q n) (weight c (Reduce q n))).1 (inl (i, (d, refl)))) (λ i. (anew (Reduce q n) (weight c (Reduce q n))).1 (inr (h, λ x. i x.0))) (jobs_listed js (Reduce q n)))) (λ g. inr g) (k.gained n out d);
    kept = λ e n out h. ⊎_elim (λ x. x.1.0) (λ x. k.kept e n out x.0) ((anew (Reduce q n) (weight c (Reduce q n))).0 h);
  }

-- where the jobs on its nodes have been looked at, it is so of each node
pub nearly_all : (c : Plain) (q : Name) (r : Reach) (ps ms : List Listed) → ListsAnew c (jobs_on q r.nodes) ps ms → IsNearlyListed c q r ps → IsNearlyListed c q (record r { nodes = [] }) ms
nearly_all c q r ps ms anew k = record {
  gained = λ n out d. ⊎_elim (λ i. inl ((anew (Reduce q n) (weight c (Reduce q n))).1 (inl (i, (d, refl))))) (λ i. after.gained n (λ m. i (reduce_on q r.nodes n m)) d) (jobs_listed (jobs_on q r.nodes) (Reduce q n));
  kept = λ e n out h. ⊎_elim (λ i. ⊎_elim (λ x. x.1.0) (λ x. absurd (x.1 (i, refl))) ((anew (Reduce q n) (weight c (Reduce q n))).0 h)) (λ i. after.kept e n (λ m. i (reduce_on q r.nodes n m)) h) (jobs_listed (jobs_on q r.nodes) (Reduce q n));
}
  where
    after : IsNearlyListed c q r ms
    after = nearly_after c q r (jobs_on q r.nodes) ps ms anew k
