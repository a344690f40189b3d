-- From tables back to terms: unifiers are solutions, the solution is most general, and where there is none nothing unifies.
use Rattle.std.proofs.Common.{ℕ, zero, suc, ◌+◌, ◌≤◌, ◌<◌, ◌≡◌, inl, inr, List, [], ◌∷◌, length, refl, sym, ap, ◌∙◌, subst, arith, replicate}
use Rattle.std.specs.Prelude.{cond, nat_lt, true, false, take, ◌++◌, ◌-◌}
use Rattle.std.proofs.lemmas.List.{length-replicate}
use Rattle.kb_term.specs.Tree.{Tree, variable, HasVariablesBelow}
use Rattle.kb_term.specs.Substitution.{instance}
use Rattle.kb_unify.specs.Unifier.{IsUnifier, IsUnifiable, IsMostGeneralUnifier}
use Rattle.kb_unify.specs.Table.{slot_at, Holds, Solves, Equates, IsSlot, IsTable, IsFree, AgreeBelow, IsFlattened, IsClosed}
use Rattle.kb_unify.specs.Extent.{value_of}
use Rattle.kb_unify.proofs.Flattening.{solves-before, cases_le}
use Rattle.kb_unify.proofs.Solutions.{most_general, solution-solves}
use Rattle.kb_unify.specs.declared.table.Slot.{Slot}
use Rattle.kb_unify.specs.declared.table.Slot.TheVariants.{Free}

-- so many variables and two places more, of which nothing is known
abbrev pub start : ℕ → List Slot
start variables = replicate (variables + 2) Free

start-free : (n i : ℕ) → slot_at (replicate n Free) i ≡ Free
start-free zero i = refl
start-free (suc n) zero = refl
start-free (suc n) (suc i) = start-free n i

take-nothing : (n : ℕ) → take {A = Slot} n [] ≡ []
take-nothing zero = refl
take-nothing (suc n) = refl

-- an empty table grown to n free places
pub started : (n : ℕ) → take n [] ++ replicate (n - 0) Free ≡ replicate n Free
started n = let e : n - 0 ≡ n = omega arith in rw (e, take-nothing n) refl

-- k below n, and one value from there on
pub at_start : ℕ → (ℕ → Tree) → Tree → ℕ → Tree
at_start n k t i = cond (nat_lt i n) (k i) t

pub at_start-below : (n : ℕ) (k : ℕ → Tree) (t : Tree) (i : ℕ) → i < n → at_start n k t i ≡ k i
unfolding at_start
at_start-below n k t i h = let e : nat_lt i n ≡ true = grind arith in rw e refl

pub at_start-above : (n : ℕ) (k : ℕ → Tree) (t : Tree) (i : ℕ) → n ≤ i → at_start n k t i ≡ t
unfolding at_start
at_start-above n k t i h = let e : nat_lt i n ≡ false = grind arith in rw e refl

module _ (variables : ℕ) (a b : Tree) (a_below : HasVariablesBelow variables a) (b_below : HasVariablesBelow variables b) (slots one two : List Slot) (slots_is : slots ≡ start variables) (first : IsFlattened slots one variables a) (second : IsFlattened one two (variables + 1) b) where
  slots-length : length slots ≡ variables + 2
  slots-length = ap length slots_is ∙ length-replicate (variables + 2) Free

  one-free : slot_at one (variables + 1) ≡ Free
  one-free = first.keeps (variables + 1) (omega (arith, slots-length)) (λ e. omega (arith, e)) ∙ ap (λ s. slot_at s (variables + 1)) slots_is ∙ start-free (variables + 2) (variables + 1)

  -- a unifier gives values that solve the table of both terms, equal at their places
  pub unifier_solves : (k : ℕ → Tree) → IsUnifier k a b → (v : ℕ → Tree) × AgreeBelow variables v k × Solves v two × (v variables ≡ v (variables + 1))
  unifier_solves k u =
      let v = at_start variables k (instance k a) in
      let v_solves : Solves v slots = λ i. subst (Holds v i) (sym (ap (λ s. slot_at s i) slots_is ∙ start-free (variables + 2) i)) tt in
      let p = first.extends v k (λ i c. at_start-below variables k (instance k a) i (a_below i c)) v_solves (at_start-above variables k (instance k a) variables (omega arith)) in
      let p_agree : AgreeBelow variables p.0 k = λ i h. p.1 i (omega (arith, h, slots-length)) ∙ at_start-below variables k (instance k a) i h in
      let p_a : p.0 variables ≡ instance k a = p.1 variables (omega (arith, slots-length)) ∙ at_start-above variables k (instance k a) variables (omega arith) in
      let p_b : p.0 (variables + 1) ≡ instance k b = p.1 (variables + 1) (omega (arith, slots-length)) ∙ at_start-above variables k (instance k a) (variables + 1) (omega arith) ∙ u in
      let q = second.extends p.0 k (λ i c. p_agree i (b_below i c)) p.2 p_b in
      let inside = first.longer in
      (q.0, (λ i h. q.1 i (omega (arith, h, slots-length, inside)) ∙ p_agree i h), q.2, q.1 variables (omega (arith, slots-length, inside)) ∙ p_a ∙ u ∙ sym p_b ∙ sym (q.1 (variables + 1) (omega (arith, slots-length, inside))))

  -- the places that stay free are variables
  pub free-below : (i : ℕ) → i < length two → IsFree (slot_at two i) → i < variables
  free-below i h f =
      let p = second.free i h f in
      let g = subst IsFree (second.keeps i p.0 p.1) f in
      let q = first.free i p.0 g in
      omega (arith, p.1, q.0, q.1, slots-length)

  -- values that solve the table are the instances at the places of both terms
  pub values_a : (v k : ℕ → Tree) → AgreeBelow variables v k → Solves v two → v variables ≡ instance k a
  values_a v k agree s = first.value v k (λ i c. agree i (a_below i c)) (solves-before one two (variables + 1) one-free second.keeps v s)

  pub values_b : (v k : ℕ → Tree) → AgreeBelow variables v k → Solves v two → v (variables + 1) ≡ instance k b
  values_b v k agree s = second.value v k (λ i c. agree i (b_below i c)) s

  -- a clash: nothing unifies
  pub clash_none : ((v : ℕ → Tree) → Solves v two → ¬ Equates v ((variables, variables + 1) ∷ [])) → ¬ IsUnifiable a b
  clash_none h (k, u) = let v = unifier_solves k u in h v.0 v.2 (v.3, tt)

  module _ (three : List Slot) (closed : IsClosed two three ((variables, variables + 1) ∷ [])) where
    -- no solution: nothing unifies
    pub unsolved_none : ((v : ℕ → Tree) → ¬ Solves v three) → ¬ IsUnifiable a b
    unsolved_none h (k, u) = let v = unifier_solves k u in h v.0 (closed.forth v.0 v.2 (v.3, tt))

    -- the solution, at the variables, is a most general unifier
    pub solution_unifies : (w m : ℕ → Tree) → ((i : ℕ) → w i ≡ value_of w i (slot_at three i)) → ((n : ℕ) → n < variables → m n ≡ w n) → ((n : ℕ) → variables ≤ n → m n ≡ variable n) → IsMostGeneralUnifier m a b
    solution_unifies w m values below above =
        let s = closed.back w (solution-solves three w values) in
        let agree : AgreeBelow variables w m = λ i h. sym (below i h) in
        record {
          unifies = sym (values_a w m agree s.0) ∙ s.1.0 ∙ values_b w m agree s.0;
          most_general = λ k u.
              let v = unifier_solves k u in
              let general = most_general three closed.table w values v.0 k (closed.forth v.0 v.2 (v.3, tt)) (λ i h f. v.1 i (free-below i (omega (arith, h, closed.same_length)) (closed.free i f))) in
              (k, λ n. elim (cases_le variables n) [ inl p ↦ sym (ap (instance k) (above n p)) | inr p ↦ sym (v.1 n p) ∙ general n (omega (arith, p, slots-length, first.longer, second.longer, closed.same_length)) ∙ ap (instance k) (sym (below n p)) ]);
        }

pub start-table : (variables : ℕ) (slots : List Slot) → slots ≡ start variables → IsTable slots
start-table variables slots e i = subst (IsSlot (length slots) i) (sym (ap (λ s. slot_at s i) e ∙ start-free (variables + 2) i)) tt
