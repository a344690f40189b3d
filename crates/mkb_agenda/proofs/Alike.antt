-- Jobs that are due on one board just where they, or those of another process, are on another.
use Rattle.std.proofs.Common.{◌≡◌, ◌≢◌, ◌↔◌, sym, ap, ap₂, ◌∙◌, subst, List, Bool, true, not, ◌&&◌, Contains}
use Rattle.std.specs.List.{list_any}
use Rattle.kb_label.specs.Names.{Name, has}
use Rattle.kb_node.specs.declared.job.Job.{Job}
use Rattle.kb_node.specs.declared.job.Job.TheVariants.{Reduce, Orient, Overlap, Close}
use Rattle.mkb_model.specs.Jobs.{process_of}
use Rattle.mkb_model.specs.Plain.{Plain, cost, weight}
use Rattle.mkb_model.specs.DueJobs.{is_working, is_work_due, is_close_due, is_due, work_of as all_work}
use Rattle.mkb_model.proofs.Lists.{same_test}
use Rattle.mkb_moves.proofs.DueWork.{any_carried}
use Rattle.mkb_pick.specs.Listings.{Listed}
use Rattle.mkb_pick.specs.Tasks.{job_of, work_of}
use Rattle.mkb_pick.proofs.Viewed.{job_again}
use Rattle.mkb_agenda.specs.Agendas.{IsDueJob, IsListedAs}
use Rattle.mkb_agenda.proofs.DueJobs.{IsProper, due_is, is_listed_due, in_work, work_has}

pub own_work : (p : Name) (j : Job) → process_of j ≡ p → job_of p (work_of j) ≡ j
own_work p j e = ap (λ z. job_of z (work_of j)) (sym e) ∙ job_again j

module _ (b c : Plain) where
  listed_alike : (i j : Job) → (IsProper j → IsProper i) → (IsProper i → IsProper j) → (IsProper j → is_due c j ≡ is_due b i) → IsDueJob c j ↔ IsDueJob b i
  listed_alike i j f g h = (
    (λ d. let r = due_is c j d in is_listed_due b i (sym (h r.1) ∙ r.0) (f r.1)),
    λ d. let r = due_is b i d in is_listed_due c j (h (g r.1) ∙ r.0) (g r.1),
  )

  -- work that is due on both boards alike, but for closing, is listed on both alike
  module _ (p q : Name) (working : is_working c q ≡ is_working b p) where
    pub work_listed : (j : Job) → process_of j ≡ q → j ≢ Close q → (IsProper j → is_work_due c j ≡ is_work_due b (job_of p (work_of j))) → IsDueJob c j ↔ IsDueJob b (job_of p (work_of j))
    work_listed (Reduce r n) e l h = listed_alike (Reduce p n) (Reduce r n) (λ k. k) (λ k. k) (λ k. ap₂ (λ (x y : Bool). x && y) (ap (is_working c) e ∙ working) (h k))
    work_listed (Orient r n) e l h = listed_alike (Orient p n) (Orient r n) (λ k. k) (λ k. k) (λ k. ap₂ (λ (x y : Bool). x && y) (ap (is_working c) e ∙ working) (h k))
    work_listed (Overlap r a d) e l h = listed_alike (Overlap p a d) (Overlap r a d) (λ k. k) (λ k. k) (λ k. ap₂ (λ (x y : Bool). x && y) (ap (is_working c) e ∙ working) (h k))
    work_listed (Close r) e l h = absurd (l (ap Close e))

-- some work stays due where each does
some_stays : (b c : Plain) (p : Name) → ((j : Job) → process_of j ≡ p → IsProper j → is_work_due b j ≡ true → is_work_due c j ≡ true) → list_any (is_work_due b) (all_work b p) ≡ true → list_any (is_work_due c) (all_work c p) ≡ true
some_stays b c p h = any_carried (is_work_due b) (is_work_due c) (all_work b p) (all_work c p) (λ j i d.
    let k = work_has b p j i in
    let u = h j k.0 k.1 d in
    (subst {A = Name} (λ z. Contains (all_work c z) j) k.0 (in_work c j u k.1), u))

-- a process whose work is due as before, and that works and is closed as before, has the same jobs due
module _ (b c : Plain) (p : Name) (working : is_working c p ≡ is_working b p) (work : (j : Job) → process_of j ≡ p → IsProper j → is_work_due c j ≡ is_work_due b j) (closed : has c.closed p ≡ has b.closed p) where
  close_alike : is_close_due c p ≡ is_close_due b p
  close_alike = ap₂ (λ (x y : Bool). not x && not y) (same_test (list_any (is_work_due c) (all_work c p)) (list_any (is_work_due b) (all_work b p))
      (some_stays c b p (λ j e k d. sym (work j e k) ∙ d)) (some_stays b c p (λ j e k d. work j e k ∙ d))) closed

  works : (r : Name) → r ≡ p → is_working c r ≡ is_working b r
  works r e = ap (is_working c) e ∙ working ∙ sym (ap (is_working b) e)

  pub due_alike : (j : Job) → process_of j ≡ p → IsDueJob c j ↔ IsDueJob b j
  due_alike (Reduce r n) e = listed_alike b c (Reduce r n) (Reduce r n) (λ k. k) (λ k. k) (λ k. ap₂ (λ (x y : Bool). x && y) (works r e) (work (Reduce r n) e k))
  due_alike (Orient r n) e = listed_alike b c (Orient r n) (Orient r n) (λ k. k) (λ k. k) (λ k. ap₂ (λ (x y : Bool). x && y) (works r e) (work (Orient r n) e k))
  due_alike (Overlap r a d) e = listed_alike b c (Overlap r a d) (Overlap r a d) (λ k. k) (λ k. k) (λ k. ap₂ (λ (x y : Bool). x && y) (works r e) (work (Overlap r a d) e k))
  due_alike (Close r) e = listed_alike b c (Close r) (Close r) (λ k. k) (λ k. k) (λ k. ap₂ (λ (x y : Bool). x && y) (works r e) (ap (is_close_due c) e ∙ close_alike ∙ sym (ap (is_close_due b) e)))

-- a process that is as before is listed as before
pub listed_same : (b c : Plain) (p : Name) → is_working c p ≡ is_working b p → (is_working b p ≡ true → cost c p ≡ cost b p) → has c.asleep p ≡ has b.asleep p → ((j : Job) → process_of j ≡ p → IsDueJob c j ↔ IsDueJob b j)
    → ((j : Job) → IsDueJob b j → weight c j ≡ weight b j) → (ps : List Listed) → IsListedAs b p p ps → IsListedAs c p p ps
listed_same b c p works costs sleeps due weights ps l = record {
  listed = λ m r. (
    (λ i. let u = (l.listed m r).0 i in (works ∙ u.0, u.1 ∙ sym (costs u.0), u.2 ∙ sym sleeps)),
    λ u. let d = sym works ∙ u.0 in (l.listed m r).1 (d, u.1 ∙ costs d, u.2 ∙ sleeps),
  );
  jobs = λ j w own. (
    (λ i. let u = (l.jobs j w own).0 i in ((mine j own).1 u.0, u.1 ∙ sym (weights j (subst {A = Job} (IsDueJob b) (own_work p j own) u.0)))),
    λ u. let d = (mine j own).0 u.0 in (l.jobs j w own).1 (d, u.1 ∙ weights j (subst {A = Job} (IsDueJob b) (own_work p j own) d)),
  );
}
  where
    mine : (j : Job) → process_of j ≡ p → IsDueJob c (job_of p (work_of j)) ↔ IsDueJob b (job_of p (work_of j))
    mine j own = due (job_of p (work_of j)) (ap process_of (own_work p j own) ∙ own)
