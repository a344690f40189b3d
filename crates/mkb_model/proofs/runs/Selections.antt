-- Legal runs are possible runs: the first job is one of those that may be taken.
use Rattle.std.proofs.Common.{◌≡◌, ◌⊎◌, inl, inr, refl, sym, subst, List, [], ◌∷◌, Contains, Bool, true, false, cond, Option, Some, None, Ordering, ⊎_elim}
use Rattle.std.specs.Option.{option_map_or}
use Rattle.std.specs.Ordering.{is_le}
use Rattle.kb_lemmas.proofs.Membership.{contains_behind, contains_first}
use Rattle.kb_lemmas.proofs.Options.{some_is, none_some}
use Rattle.kb_term.specs.Signature.{Problem}
use Rattle.mkb_model.specs.Jobs.{least, lesser, job_cmp}
use Rattle.mkb_model.specs.Plain.{Plain, cost, weight}
use Rattle.mkb_model.specs.DueJobs.{free_jobs}
use Rattle.mkb_model.specs.Journals.{Moment, Follows, IsRunBy, IsRun, IsPossibleRun, IsFreeJob, IsFirstJob}
use Rattle.kb_node.specs.declared.job.Job.{Job}
use Rattle.mkb_model.specs.declared.entry.Entry.{Entry}
use Rattle.mkb_model.specs.declared.entry.Entry.TheVariants.{Take, Commit, Drop, Abandon, Halt}
use Rattle.mkb_model.specs.declared.settings.Settings.{Settings}

lesser_cases : {A : Type 0} (cmp : A → A → Ordering) (x y : A) → (lesser cmp x y ≡ x) ⊎ (lesser cmp x y ≡ y)
lesser_cases {A} cmp x y = go (is_le (cmp x y))
  where
    go : (b : Bool) → (cond b x y ≡ x) ⊎ (cond b x y ≡ y)
    go true = inl refl
    go false = inr refl

-- the least of a list is one of it
pub least-in : {A : Type 0} (cmp : A → A → Ordering) (xs : List A) (x : A) → least cmp xs ≡ Some x → Contains xs x
least-in cmp [] x h = none_some h
least-in {A} cmp (y ∷ ys) x h = subst {A = A} (Contains (y ∷ ys)) (some_is h) (go (least cmp ys) refl (λ z e. least-in cmp ys z e))
  where
    go : (o : Option A) → least cmp ys ≡ o → ((z : A) → least cmp ys ≡ Some z → Contains ys z) → Contains (y ∷ ys) (option_map_or (lesser cmp y) o y)
    go None e ih = contains_first y ys
    go (Some z) e ih = ⊎_elim (λ q. subst {A = A} (Contains (y ∷ ys)) (sym q) (contains_first y ys)) (λ q. subst {A = A} (Contains (y ∷ ys)) (sym q) (contains_behind y ys z (ih z e))) (lesser_cases cmp y z)

-- each list but the empty one has a least
pub least-none : {A : Type 0} (cmp : A → A → Ordering) (xs : List A) → least cmp xs ≡ None → xs ≡ []
least-none cmp [] h = refl
least-none cmp (x ∷ xs) h = absurd (cc)

-- the first job is a due job that clashes with none in flight
pub first-free : (b : Plain) (j : Job) → IsFirstJob b j → IsFreeJob b j
first-free b j h = least-in (job_cmp (cost b) (weight b)) (free_jobs b) j h

-- a run whose takes are of some jobs is a run whose takes are of more
pub widened : (May More : Plain → Job → Type 0) → ((b : Plain) (j : Job) → May b j → More b j) → (P : Problem) (n : Settings) (ms : List Moment) (c : Plain) → IsRunBy May P n ms c → IsRunBy More P n ms c
widened May More h P n [] c run = run
widened May More h P n (m ∷ ms) c (run, f) = (widened May More h P n ms m.board run, more m.entry f)
  where
    more : (e : Entry) → Follows May ms m.board e c → Follows More ms m.board e c
    more (Take w t j) f = record { no_verdict = f.no_verdict; no_halt = f.no_halt; worker_least = f.worker_least; worker_most = f.worker_most; next_number = f.next_number; picked = h m.board j f.picked; leads_to = f.leads_to }
    more (Commit w t e) f = f
    more (Drop w t p) f = f
    more (Abandon w t) f = f
    more Halt f = f

-- a legal run is a possible run
pub legal-possible : (P : Problem) (n : Settings) (ms : List Moment) (c : Plain) → IsRun P n ms c → IsPossibleRun P n ms c
legal-possible P n ms c run = widened IsFirstJob IsFreeJob first-free P n ms c run
