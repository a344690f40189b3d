-- Each entry of a run is zero or more steps of each living process, from the state of its living ancestor, where what is committed is ready.
use Rattle.std.proofs.Common.{◌≡◌, ◌≢◌, ◌⊎◌, inl, inr, refl, sym, ◌∙◌, subst, List, [], ◌∷◌, Option, Some, None, ⊎_elim, Bool, true, false, cond, not}
use Rattle.std.specs.Prelude.{IsFalse}
use Rattle.std.specs.Option.{option_map_or}
use Rattle.std.proofs.lemmas.Bool.{or_cases}
use Rattle.kb_label.proofs.Forked.{begins-trans}
use Rattle.kb_lemmas.proofs.Booleans.{and_gives_left, and_gives_right}
use Rattle.kb_term.specs.Signature.{Signature, Problem}
use Rattle.kb_laws.specs.Completion.{KbState, KbReaches, IsSameState}
use Rattle.kb_label.specs.Names.{Name, has, name_eq, is_beginning, child, relabel, add, minus}
use Rattle.mkb_model.specs.Plain.{Plain, state_of}
use Rattle.mkb_model.specs.Effects.{applied, effect, limit_of, give_up, effect_label, is_dropped}
use Rattle.mkb_model.specs.Journals.{Moment, Follows, IsRunBy, landed, in_flight}
use Rattle.kb_label.specs.declared.verdict.Reason.{Reason}
use Rattle.kb_node.specs.declared.job.Job.{Job}
use Rattle.mkb_model.specs.declared.proposed.Proposed.{Proposed}
use Rattle.mkb_model.specs.declared.proposed.Proposed.TheVariants.{Facts, Rewrite, One, Both, Refuse, Deduce, Unjoined, Closed, Limit}
use Rattle.mkb_model.specs.declared.entry.Entry.{Entry}
use Rattle.mkb_model.specs.declared.entry.Entry.TheVariants.{Take, Commit, Drop, Abandon, Halt}
use Rattle.kb_label.proofs.Members.{has-add, has-minus, name_eq-eq, name_eq-refl}
use Rattle.mkb_model.specs.Ready.{IsFine, CommitsFine, AllFine}
use Rattle.mkb_model.specs.Invariants.{AreApart}
use Rattle.mkb_model.proofs.Lists.{clash, false_unless, not_true}
use Rattle.mkb_model.proofs.commits.Roles.{has-one}
use Rattle.mkb_model.proofs.commits.Steps.{reaches_same, same_state}
use Rattle.mkb_model.proofs.commits.RoleChanges.{Fits}
use Rattle.mkb_model.proofs.commits.Commits.{IsApartFrom, applied_reaches, fork_reaches, orients}
use Rattle.mkb_model.proofs.nodes.DistinctPairs.{HasPairs, fits-applied, fits_run, proposed_pairs}
use Rattle.mkb_model.proofs.runs.Ancestors.{begins-refl, two_beginnings, Simulates, Simulating}
use Rattle.mkb_model.specs.declared.settings.Settings.{Settings}

-- ---- children

pub begins-child : (p : Name) (bit : Bool) → is_beginning p (child p bit) ≡ true
begins-child [] bit = refl
begins-child (true ∷ p) bit = begins-child p bit
begins-child (false ∷ p) bit = begins-child p bit

not_longer : (p : Name) (bit : Bool) → ¬ (is_beginning (child p bit) p ≡ true)
not_longer [] bit h = clash h refl
not_longer (true ∷ p) bit h = not_longer p bit h
not_longer (false ∷ p) bit h = not_longer p bit h

siblings : (p : Name) → ¬ (is_beginning (child p false) (child p true) ≡ true)
siblings [] h = clash h refl
siblings (true ∷ p) h = siblings p h
siblings (false ∷ p) h = siblings p h

siblings' : (p : Name) → ¬ (is_beginning (child p true) (child p false) ≡ true)
siblings' [] h = clash h refl
siblings' (true ∷ p) h = siblings' p h
siblings' (false ∷ p) h = siblings' p h

differ : (p q : Name) → ¬ (p ≡ q) → name_eq p q ≡ false
differ p q h = false_unless (name_eq p q) (λ e. h (name_eq-eq p q e))

-- who is named after a fork: a child, or another that was named before
pub forked_names : (p : Name) (l : List Name) (q : Name) → has l p ≡ true → has (relabel p l) q ≡ true → ((bit : Bool) × (q ≡ child p bit)) ⊎ ((has l q ≡ true) × (q ≢ p))
forked_names p l q lives h = go (has l p) lives h
  where
    go : (b : Bool) → b ≡ true → has (cond b (add (child p false) (add (child p true) (minus l (p ∷ [])))) l) q ≡ true → ((bit : Bool) × (q ≡ child p bit)) ⊎ ((has l q ≡ true) × (q ≢ p))
    go false e k = clash e refl
    go true e k = ⊎_elim (λ i. inl (false, name_eq-eq q (child p false) i))
        (λ i. ⊎_elim (λ j. inl (true, name_eq-eq q (child p true) j))
        (λ j. let m = sym (has-minus l (p ∷ []) q) ∙ j in
        inr (and_gives_right (not (has (p ∷ []) q)) (has l q) m, λ r. clash (has-one p q ∙ subst {A = Name} (λ z. name_eq z p ≡ true) (sym r) (name_eq-refl p)) (not_true (and_gives_left (not (has (p ∷ []) q)) (has l q) m))))
        (or_cases (name_eq q (child p true)) (has (minus l (p ∷ [])) q) (sym (has-add (child p true) (minus l (p ∷ [])) q) ∙ i)))
        (or_cases (name_eq q (child p false)) (has (add (child p true) (minus l (p ∷ []))) q) (sym (has-add (child p false) (add (child p true) (minus l (p ∷ []))) q) ∙ k))

module _ (p : Name) (l : List Name) (lives : has l p ≡ true) (apart : AreApart l) where
  -- a child and another name: neither begins the other
  child_apart : (bit : Bool) (q : Name) → has l q ≡ true → q ≢ p → ¬ (is_beginning (child p bit) q ≡ true)
  child_apart bit q n d h = d (sym (apart p q lives n (begins-trans p (child p bit) q (begins-child p bit) h)))

  apart_child : (bit : Bool) (q : Name) → has l q ≡ true → q ≢ p → ¬ (is_beginning q (child p bit) ≡ true)
  apart_child bit q n d h = ⊎_elim (λ k. d (apart q p n lives k)) (λ k. d (sym (apart p q lives n k))) (two_beginnings q p (child p bit) h (begins-child p bit))

  two_children : (x y : Bool) → is_beginning (child p x) (child p y) ≡ true → child p x ≡ child p y
  two_children true true h = refl
  two_children false false h = refl
  two_children false true h = absurd (siblings p h)
  two_children true false h = absurd (siblings' p h)

  -- after a fork no name begins another
  pub fork_apart : AreApart (relabel p l)
  fork_apart q r hq hr h = go (forked_names p l q lives hq) (forked_names p l r lives hr)
    where
      go : ((bit : Bool) × (q ≡ child p bit)) ⊎ ((has l q ≡ true) × (q ≢ p)) → ((bit : Bool) × (r ≡ child p bit)) ⊎ ((has l r ≡ true) × (r ≢ p)) → q ≡ r
      go (inl (x, e)) (inl (y, f)) = e ∙ two_children x y (subst {A = Name} (λ z. is_beginning (child p x) z ≡ true) f (subst {A = Name} (λ z. is_beginning z r ≡ true) e h)) ∙ sym f
      go (inl (x, e)) (inr (n, d)) = absurd (child_apart x r n d (subst {A = Name} (λ z. is_beginning z r ≡ true) e h))
      go (inr (n, d)) (inl (y, f)) = absurd (apart_child y q n d (subst {A = Name} (λ z. is_beginning q z ≡ true) f h))
      go (inr (n, d)) (inr (m, e)) = apart q r n m h

  pub apart_from : (q : Name) → has l q ≡ true → q ≢ p → IsApartFrom p q
  apart_from q n d = record {
    not_itself = differ q p d;
    not_first = differ q (child p false) (λ e. apart_child false q n d (subst {A = Name} (λ z. is_beginning z (child p false) ≡ true) (sym e) (begins-refl (child p false))));
    not_second = differ q (child p true) (λ e. apart_child true q n d (subst {A = Name} (λ z. is_beginning z (child p true) ≡ true) (sym e) (begins-refl (child p true))));
  }

-- ---- entries

-- the same processes live, each with its state or more steps
same_names : (g : Signature) (b c : Plain) → c.living ≡ b.living → AreApart b.living → ((q : Name) → KbReaches g (state_of b q) (state_of c q)) → Simulates g b c × AreApart c.living
same_names g b c e apart h = ((λ q n. (q, subst {A = List Name} (λ l. has l q ≡ true) e n, begins-refl q, h q)), subst {A = List Name} AreApart (sym e) apart)

same_board : (g : Signature) (b c : Plain) → c.living ≡ b.living → c.nodes ≡ b.nodes → ((q : Name) → state_of c q ≡ state_of b q) → AreApart b.living → Simulates g b c × AreApart c.living
same_board g b c e f s apart = same_names g b c e apart (λ q. reaches_same g (state_of b q) (state_of c q) (subst {A = KbState} (λ z. IsSameState (state_of b q) z) (sym (s q)) (same_state (state_of b q))))

applied_simulates : (g : Signature) (b : Plain) (x : Proposed) → IsFine g b x → HasPairs x → Fits b.nodes → IsFalse (is_dropped b x) → AreApart b.living → Simulates g b (applied b x) × AreApart (applied b x).living
applied_simulates g b (Both p n c0 c1) fine pairs fits acts apart = ((λ q named. go q (forked_names p b.living q fine.forkable.0 named)), fork_apart p b.living fine.forkable.0 apart)
  where
    r : KbReaches g (state_of b p) (state_of (applied b (Both p n c0 c1)) (child p false)) × KbReaches g (state_of b p) (state_of (applied b (Both p n c0 c1)) (child p true)) × ((q : Name) → IsApartFrom p q → KbReaches g (state_of b q) (state_of (applied b (Both p n c0 c1)) q))
    r = fork_reaches g b p n.0 (applied b (Both p n c0 c1)) refl (fits-applied b (Both p n c0 c1) pairs fits) fine.forkable.1 (orients b p n.0 acts) fine.ready.0 fine.ready.1 fine.ready.2 fine.ready.3

    by_bit : (bit : Bool) → KbReaches g (state_of b p) (state_of (applied b (Both p n c0 c1)) (child p bit))
    by_bit false = r.0
    by_bit true = r.1

    go : (q : Name) → ((bit : Bool) × (q ≡ child p bit)) ⊎ ((has b.living q ≡ true) × (q ≢ p)) → (o : Name) × (has b.living o ≡ true) × (is_beginning o q ≡ true) × KbReaches g (state_of b o) (state_of (applied b (Both p n c0 c1)) q)
    go q (inl (bit, e)) = (p, fine.forkable.0, subst {A = Name} (λ z. is_beginning p z ≡ true) (sym e) (begins-child p bit), subst {A = Name} (λ z. KbReaches g (state_of b p) (state_of (applied b (Both p n c0 c1)) z)) (sym e) (by_bit bit))
    go q (inr (lives, d)) = (q, lives, begins-refl q, r.2 q (apart_from p b.living fine.forkable.0 apart q lives d))
applied_simulates g b (Facts fs) fine pairs fits acts apart = same_names g b (applied b (Facts fs)) refl apart (λ q. applied_reaches g b (Facts fs) tt fine.ready acts q (fine.one_role q) (fits-applied b (Facts fs) pairs fits))
applied_simulates g b (Rewrite n w at a kind t) fine pairs fits acts apart = same_names g b (applied b (Rewrite n w at a kind t)) refl apart (λ q. applied_reaches g b (Rewrite n w at a kind t) tt fine.ready acts q (fine.one_role q) (fits-applied b (Rewrite n w at a kind t) pairs fits))
applied_simulates g b (One p n d c) fine pairs fits acts apart = same_names g b (applied b (One p n d c)) refl apart (λ q. applied_reaches g b (One p n d c) tt fine.ready acts q (fine.one_role q) (fits-applied b (One p n d c) pairs fits))
applied_simulates g b (Refuse p n) fine pairs fits acts apart = same_names g b (applied b (Refuse p n)) refl apart (λ q. applied_reaches g b (Refuse p n) tt fine.ready acts q (fine.one_role q) (fits-applied b (Refuse p n) pairs fits))
applied_simulates g b (Deduce a c ds) fine pairs fits acts apart = same_names g b (applied b (Deduce a c ds)) refl apart (λ q. applied_reaches g b (Deduce a c ds) tt fine.ready acts q (fine.one_role q) (fits-applied b (Deduce a c ds) pairs fits))
applied_simulates g b (Unjoined p ds) fine pairs fits acts apart = same_names g b (applied b (Unjoined p ds)) refl apart (λ q. applied_reaches g b (Unjoined p ds) tt fine.ready acts q (fine.one_role q) (fits-applied b (Unjoined p ds) pairs fits))
applied_simulates g b (Closed p) fine pairs fits acts apart = same_names g b (applied b (Closed p)) refl apart (λ q. applied_reaches g b (Closed p) tt fine.ready acts q (fine.one_role q) (fits-applied b (Closed p) pairs fits))
applied_simulates g b (Limit j cause) fine pairs fits acts apart = same_names g b (applied b (Limit j cause)) refl apart (λ q. applied_reaches g b (Limit j cause) tt fine.ready acts q (fine.one_role q) (fits-applied b (Limit j cause) pairs fits))

-- at a limit nothing changes but who gave up
effect_simulates : (g : Signature) (b : Plain) (x : Proposed) → IsFine g b x → HasPairs x → Fits b.nodes → IsFalse (is_dropped b x) → AreApart b.living → Simulates g b (effect b x) × AreApart (effect b x).living
effect_simulates g b x fine pairs fits acts apart = go (limit_of b x)
  where
    go : (o : Option Reason) → Simulates g b (option_map_or (λ r. give_up r (effect_label b x) b) o (applied b x)) × AreApart (option_map_or (λ r. give_up r (effect_label b x) b) o (applied b x)).living
    go None = applied_simulates g b x fine pairs fits acts apart
    go (Some r) = same_board g b (give_up r (effect_label b x) b) refl refl (λ q. refl) apart

pub follow_simulates : (May : Plain → Job → Type 0) (g : Signature) (past : List Moment) (b : Plain) (e : Entry) (c : Plain) (f : Follows May past b e c) → CommitsFine May g past b e c f → Fits b.nodes → AreApart b.living → Simulates g b c × AreApart c.living
follow_simulates May g past b (Take w t j) c f fine fits apart = subst {A = Plain} (λ z. Simulates g b z × AreApart z.living) (sym f.leads_to) (same_board g b (in_flight w t j b) refl refl (λ q. refl) apart)
follow_simulates May g past b (Commit w t e) c f fine fits apart = subst {A = Plain} (λ z. Simulates g b z × AreApart z.living) (sym f.leads_to) (effect_simulates g b f.proposal fine (proposed_pairs f.finishing.before f.job f.proposal f.finishing.proposed) fits f.acts apart)
follow_simulates May g past b (Drop w t p) c f fine fits apart = subst {A = Plain} (λ z. Simulates g b z × AreApart z.living) (sym f.leads_to) (same_board g b (landed t b) refl refl (λ q. refl) apart)
follow_simulates May g past b (Abandon w t) c f fine fits apart = subst {A = Plain} (λ z. Simulates g b z × AreApart z.living) (sym f.leads_to) (same_board g b (landed t b) refl refl (λ q. refl) apart)
follow_simulates May g past b Halt c f fine fits apart = subst {A = Plain} (λ z. Simulates g b z × AreApart z.living) (sym f.1) (same_board g b b refl refl (λ q. refl) apart)

pub run_simulates : (May : Plain → Job → Type 0) (P : Problem) (n : Settings) (ms : List Moment) (c : Plain) (run : IsRunBy May P n ms c) → AllFine May P n ms c run → Simulating P.signature ms c × AreApart c.living
run_simulates May P n [] c run fine = (tt, subst {A = Plain} (λ z. AreApart z.living) (sym run) one)
  where
    is_root : (p : Name) → has ([] ∷ []) p ≡ true → p ≡ []
    is_root [] h = refl
    is_root (x ∷ p) h = clash h refl

    one : AreApart ([] ∷ [])
    one p q hp hq h = is_root p hp ∙ sym (is_root q hq)
run_simulates May P n (m ∷ ms) c run fine =
    let before = run_simulates May P n ms m.board run.0 fine.1 in
    let now = follow_simulates May P.signature ms m.board m.entry c run.1 fine.0 (fits_run May P n ms m.board run.0) before.1 in
    ((now.0, before.1, before.0), now.1)
