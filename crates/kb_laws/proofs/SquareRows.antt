-- What the laws ask can be met where rules overlap: the completion of f(f(x)) = a to f(f(x)) -> a and f(a) -> a.
use Rattle.std.proofs.Common.{ℕ, zero, suc, ◌≡◌, ◌⊎◌, ⊎_elim, inl, inr, refl, sym, subst, subst₂, ◌∙◌, ap, arith, List, [], ◌∷◌, Contains, All, Some, Ok, Bool, true, false}
use Rattle.std.proofs.lemmas.Option.{same_Some}
use Rattle.kb_lemmas.proofs.Membership.{contains_cases, contains_first, contains_behind, all_one}
use Rattle.kb_term.specs.Tree.{Tree, variable}
use Rattle.kb_term.specs.Substitution.{instance, rename}
use Rattle.kb_term.specs.Position.{subtree_at}
use Rattle.kb_term.specs.Pair.{IsSameEquation}
use Rattle.kb_term.specs.Rule.{Rule, IsVariantRule}
use Rattle.kb_term.specs.Proving.{IsJoinable}
use Rattle.kb_term.proofs.PairRows.{one, none}
use Rattle.kb_term.proofs.Trees.{apply-inj, more_trees-inj}
use Rattle.kb_unify.specs.Unifier.{IsUnifier, IsUnifiable, IsInstanceOfSubstitution}
use Rattle.kb_overlap.specs.Overlap.{Overlap, IsOverlapList, IsRenamedApart, HasNoOverlapAt}
use Rattle.kb_overlap.proofs.OverlapRows.{ff-a, ff-overlaps}
use Rattle.kb_lpo.specs.PathOrder.{LpoGreater, symbol_greater, argument_equal}
use Rattle.kb_cert.specs.Family.{Orders}
use Rattle.kb_cert.proofs.FamilyLaws.{first_member}
use Rattle.kb_laws.specs.Completion.{KbState, KbStep, deduce, orient, Has, Gains, Loses, Keeps, IsKbRun, kb_start}
use Rattle.kb_laws.specs.Overlaps.{OverlapsJoin}
use Rattle.kb_laws.specs.Runs.{IsEquationOver}
use Rattle.kb_laws.specs.Complete.{IsCompleteSystem}
use Rattle.kb_laws.specs.Square.{square_signature, square_problem, square_order, square_rules}
use Rattle.kb_laws.proofs.Complete.{all_from}
use Rattle.kb_laws.proofs.SystemRows.{gains_one}
use Rattle.kb_laws.proofs.Stated.{complete_state_is_system}

-- f(f(x)) = a
abbrev equation : Tree × Tree
equation = (ff-a.left, none 1)

-- f(a) -> a
abbrev fa-a : Rule
fa-a = record { left = one 0 (none 1); right = none 1 }

abbrev fa-equation : Tree × Tree
fa-equation = (one 0 (none 1), none 1)

-- what holds of both members holds of the list
all_two : {X : Type 0} (P : X → Type 0) (x y : X) → P x → P y → All P (x ∷ y ∷ [])
all_two P x y h k = all_from P (x ∷ y ∷ []) (λ z i. ⊎_elim (λ q. subst P q h) (λ j. ⊎_elim (λ q. subst P q k) (λ l. absurd (omega arith)) (contains_cases y [] z j)) (contains_cases x (y ∷ []) z i))

-- the members of the longer list are that of the shorter one and the last
gains_second : {X : Type 0} (Same : X → X → Type 0) (w x : X) → Gains Same (w ∷ []) (w ∷ x ∷ []) x
gains_second {X} Same w x y = (there, back)
  where
    there : Has Same (w ∷ []) y ⊎ Same x y → Has Same (w ∷ x ∷ []) y
    there (inl (z, c, s)) = ⊎_elim (λ q. (w, contains_first w (x ∷ []), subst (λ v. Same v y) (sym q) s)) (λ k. absurd (omega arith)) (contains_cases w [] z c)
    there (inr s) = (x, contains_behind w (x ∷ []) x (contains_first x []), s)

    last : (z : X) → Contains (x ∷ []) z → Same z y → Has Same (w ∷ []) y ⊎ Same x y
    last z k s = ⊎_elim (λ q. inr (subst (λ v. Same v y) (sym q) s)) (λ i. absurd (omega arith)) (contains_cases x [] z k)

    back : Has Same (w ∷ x ∷ []) y → Has Same (w ∷ []) y ⊎ Same x y
    back (z, c, s) = ⊎_elim (λ q. inl (w, contains_first w [], subst (λ v. Same v y) (sym q) s)) (λ k. last z k s) (contains_cases w (x ∷ []) z c)

-- f(f(x)) > a and f(a) > a
ff-greater : LpoGreater (0 ∷ 1 ∷ []) ff-a.left ff-a.right
ff-greater = symbol_greater (λ u c. absurd (omega arith)) (omega arith)

fa-greater : LpoGreater (0 ∷ 1 ∷ []) fa-a.left fa-a.right
fa-greater = argument_equal (contains_first (none 1) [])

ordered : Orders square_order square_rules
ordered = all_two (λ (r : Rule). LpoGreater (0 ∷ 1 ∷ []) r.left r.right) ff-a fa-a ff-greater fa-greater

-- f(f(x)) = a becomes a rule; its overlap with itself gives f(a) = a, which becomes the second rule
abbrev oriented : KbState
oriented = record { equations = []; rules = ff-a ∷ []; constraints = ff-a ∷ [] }

abbrev deduced : KbState
deduced = record { equations = (one 0 (none 1), none 1) ∷ []; rules = ff-a ∷ []; constraints = ff-a ∷ [] }

abbrev completed : KbState
completed = record { equations = []; rules = square_rules; constraints = square_rules }

keeps : {X : Type 0} (Same : X → X → Type 0) (xs : List X) → Keeps Same xs xs
keeps Same xs y = ((λ h. h), (λ h. h))

loses_one : {X : Type 0} (Same : X → X → Type 0) (x : X) → Loses Same (x ∷ []) [] x
loses_one Same x = (gains_one Same x, λ h. absurd (let c = h.1 in omega arith))

orient-ff : KbStep square_signature (kb_start square_problem) oriented
orient-ff = orient ff-a.left (none 1) (square_order, first_member square_signature, all_one (λ (r : Rule). LpoGreater (0 ∷ 1 ∷ []) r.left r.right) ff-a ff-greater)
    (loses_one IsSameEquation equation) (gains_one IsVariantRule ff-a) (gains_one IsVariantRule ff-a)

-- f(f(f(x))) rewrites to f(a) below the root, and to a at the root
deduce-fa : KbStep square_signature oriented deduced
deduce-fa = deduce (one 0 (one 0 (one 0 (variable 0)))) (one 0 (none 1)) (none 1) (refl, ((refl, ((refl, (tt, tt)), tt)), tt))
    (ff-a, contains_first ff-a [], 1 ∷ [], (variable, record { redex = refl; result = refl }))
    (ff-a, contains_first ff-a [], [], ((λ n. one 0 (variable n)), record { redex = refl; result = refl }))
    (gains_one IsSameEquation fa-equation) (keeps IsVariantRule (ff-a ∷ [])) (keeps IsVariantRule (ff-a ∷ []))

orient-fa : KbStep square_signature deduced completed
orient-fa = orient (one 0 (none 1)) (none 1) (square_order, first_member square_signature, all_two (λ (r : Rule). LpoGreater (0 ∷ 1 ∷ []) r.left r.right) fa-a ff-a fa-greater ff-greater)
    (loses_one IsSameEquation fa-equation) (gains_second IsVariantRule ff-a fa-a) (gains_second IsVariantRule ff-a fa-a)

run : IsKbRun square_problem (completed ∷ [])
run = ((oriented ∷ deduced ∷ completed ∷ [], completed, (orient-ff, (deduce-fa, (orient-fa, refl))), record { equations = keeps IsSameEquation []; rules = keeps IsVariantRule square_rules; constraints = keeps IsVariantRule square_rules }), tt)

-- f(a) rewrites to a
fa-joins : IsJoinable square_rules (none 1) (one 0 (none 1))
fa-joins = (none 1, ([], refl), (none 1 ∷ [], ((fa-a, contains_behind ff-a (fa-a ∷ []) fa-a (contains_first fa-a []), [], (variable, record { redex = refl; result = refl })), refl)))

-- the overlap of the second rule with the first one: x becomes a
abbrev unifier : ℕ → Tree
unifier zero = none 1
unifier (suc n) = variable (suc n)

unifier-most-general : (k : ℕ → Tree) → IsUnifier k (one 0 (variable 0)) (one 0 (none 1)) → IsInstanceOfSubstitution k unifier
unifier-most-general k e = (k, go)
  where
    go : (n : ℕ) → k n ≡ instance k (unifier n)
    go zero = (more_trees-inj ((apply-inj e).1)).0
    go (suc n) = refl

fa-apart : IsRenamedApart ff-a fa-a fa-a
fa-apart = record { variant = ((λ n. n), (λ n. n), record { there = refl; back_again = refl }, record { there = refl; back_again = refl }); apart = λ n c d. absurd (omega arith) }

-- what isn't unifiable with a left side however its variables are named has no overlap with the rule there
apart_shapes : (outer inner : Rule) (p : List ℕ) (w : Tree) → subtree_at outer.left p ≡ Some w → ((r : ℕ → ℕ) → ¬ IsUnifiable w (rename r inner.left)) → HasNoOverlapAt outer inner p
apart_shapes outer inner p w there differs renamed u ren at =
    let (r, back, left, right) = ren.variant in
    subst₂ (λ a b. ¬ IsUnifiable a b) (same_Some w u (sym there ∙ at)) left.there (differs r)

-- f(s) and a, s and t where s and t can't be made equal
a-ff : (r : ℕ → ℕ) → ¬ IsUnifiable (none 1) (rename r ff-a.left)
a-ff r (m, e) = absurd (let q : 1 ≡ 0 = (apply-inj e).0 in omega (arith, q))

a-fa : (r : ℕ → ℕ) → ¬ IsUnifiable (none 1) (rename r fa-a.left)
a-fa r (m, e) = absurd (let q : 1 ≡ 0 = (apply-inj e).0 in omega (arith, q))

ff-fa : (r : ℕ → ℕ) → ¬ IsUnifiable ff-a.left (rename r fa-a.left)
ff-fa r (m, e) = absurd (let q : 0 ≡ 1 = (apply-inj (more_trees-inj ((apply-inj e).1)).0).0 in omega (arith, q))

fa-ff : (r : ℕ → ℕ) → ¬ IsUnifiable fa-a.left (rename r ff-a.left)
fa-ff r (m, e) = absurd (let q : 1 ≡ 0 = (apply-inj (more_trees-inj ((apply-inj e).1)).0).0 in omega (arith, q))

abbrev overlap : Overlap
overlap = record { position = 1 ∷ []; sides = Ok (none 1, one 0 (none 1)) }

ff-fa-overlaps : IsOverlapList ff-a fa-a false (overlap ∷ [])
ff-fa-overlaps =
    inl (
      apart_shapes ff-a fa-a [] ff-a.left refl ff-fa,
      inr (
        overlap,
        [],
        refl,
        refl,
        record {
          renamed = fa-a;
          m = unifier;
          s = none 1;
          t = one 0 (none 1);
          renamed_apart = fa-apart;
          overlaps = record { subterm = one 0 (variable 0); there = refl; no_variable = (1, omega arith, refl); unifier = record { unifies = refl; most_general = unifier-most-general } };
          pair = record { by_outer = refl; by_inner = refl };
          sides = refl;
        },
        refl,
      ),
    )

fa-ff-overlaps : IsOverlapList fa-a ff-a false []
fa-ff-overlaps = inl (apart_shapes fa-a ff-a [] fa-a.left refl fa-ff, inl (apart_shapes fa-a ff-a (1 ∷ []) (none 1) refl a-ff, refl))

fa-overlaps : IsOverlapList fa-a fa-a true []
fa-overlaps = inl (apart_shapes fa-a fa-a (1 ∷ []) (none 1) refl a-fa, refl)

-- the list of overlaps of two rules, each joinable
abbrev Joined : Rule → Rule → Bool → Type 0
Joined outer inner same = (os : List Overlap) × IsOverlapList outer inner same os × ((o : Overlap) → Contains os o → (s : Tree) × (t : Tree) × (o.sides ≡ Ok (s, t)) × IsJoinable square_rules s t)

one_joined : (outer inner : Rule) (same : Bool) → IsOverlapList outer inner same (overlap ∷ []) → Joined outer inner same
one_joined outer inner same list = (overlap ∷ [], list, λ o c. ⊎_elim (λ q. (none 1, one 0 (none 1), ap (λ (x : Overlap). x.sides) (sym q), fa-joins)) (λ k. absurd (omega arith)) (contains_cases overlap [] o c))

none_joined : (outer inner : Rule) (same : Bool) → IsOverlapList outer inner same [] → Joined outer inner same
none_joined outer inner same list = ([], list, λ o c. absurd (omega arith))

joins : OverlapsJoin square_rules
joins zero zero A B e d = subst₂ (λ a b. Joined a b true) (same_Some ff-a A e) (same_Some ff-a B d) (one_joined ff-a ff-a true ff-overlaps)
joins zero (suc zero) A B e d = subst₂ (λ a b. Joined a b false) (same_Some ff-a A e) (same_Some fa-a B d) (one_joined ff-a fa-a false ff-fa-overlaps)
joins (suc zero) zero A B e d = subst₂ (λ a b. Joined a b false) (same_Some fa-a A e) (same_Some ff-a B d) (none_joined fa-a ff-a false fa-ff-overlaps)
joins (suc zero) (suc zero) A B e d = subst₂ (λ a b. Joined a b true) (same_Some fa-a A e) (same_Some fa-a B d) (none_joined fa-a fa-a true fa-overlaps)
joins (suc (suc i)) j A B e d = absurd (cc)
joins zero (suc (suc j)) A B e d = absurd (cc)
joins (suc zero) (suc (suc j)) A B e d = absurd (cc)

-- the two rules halt, are confluent and prove exactly what f(f(x)) = a proves
pub square-completed : IsCompleteSystem square_problem square_order square_rules
square-completed = complete_state_is_system square_problem (completed ∷ []) square_order completed (record {
  run = run;
  over = all_one (IsEquationOver square_signature) equation ((refl, ((refl, (tt, tt)), tt)), (refl, tt));
  reached = contains_first completed [];
  no_equations = refl;
  member = first_member square_signature;
  ordered = ordered;
  joinable = joins;
})
