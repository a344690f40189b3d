-- Which overlaps join, and what of them is proposed; and the variables of normal forms.
use Rattle.std.proofs.Common.{ℕ, zero, suc, ◌≡◌, ◌≢◌, ◌⊎◌, ◌↔◌, inl, inr, refl, sym, ap, ap₂, ◌∙◌, subst, arith, List, [], ◌∷◌, ◌++◌, map, take, flat_map, length, Contains, append_assoc, Bool, true, false, cond, Option, Some, None, Ok, ⊎_elim, eq-eqb, ne_eqb}
use Rattle.std.specs.Prelude.{IsTrue, slice_get}
use Rattle.std.specs.List.{list_any}
use Rattle.std.proofs.lemmas.List.{append-nil, map-append}
use Rattle.std.proofs.lemmas.List.Concat.{flat_map-append}
use Rattle.std.proofs.lemmas.List.Elements.{Contains-append_cases, Contains-append_left, Contains-append_right}
use Rattle.mkb_model.proofs.commits.RewritingRuns.{trivial_none}
use Rattle.kb_lemmas.proofs.Options.{none_some, some_is}
use Rattle.kb_lemmas.proofs.Membership.{contains_mapped, contains_map}
use Rattle.kb_term.specs.Tree.{Tree, variable, apply, no_trees, variables_of}
use Rattle.kb_term.specs.Rule.{Rule}
use Rattle.kb_term.specs.Pair.{Pair, canonical, canonical_pair}
use Rattle.kb_term.specs.Substitution.{instance}
use Rattle.kb_term.specs.TermOrder.{pair_eq}
use Rattle.kb_term.specs.Tree.{tree_eq}
use Rattle.kb_term.specs.declared.origin.RuleRef.{RuleRef}
use Rattle.mkb_model.proofs.nodes.Variables.{put, number_there, few_less}
use Rattle.kb_term.proofs.Steps.{occurs_from, occurs_to, Occurs}
use Rattle.kb_term.proofs.Instances.{instance-variable, instance-agree, agree_at}
use Rattle.kb_term.proofs.OwnPair.{tree_eq-true, tree_eq-same}
use Rattle.kb_node.proofs.Finding.{pair_eq-same, pair_eq-refl}
use Rattle.kb_rewrite.specs.NormalForm.{HoldVariables, form, NormalisesTo}
use Rattle.kb_rewrite.specs.Answers.{normalised}
use Rattle.kb_rewrite.specs.declared.normalising.Normal.{Normal}
use Rattle.kb_jobs.specs.declared.rules.NamedRules.{NamedRules}
use Rattle.mkb_model.specs.Plain.{sides}
use Rattle.mkb_model.specs.Proposals.{NamedRule, as_rules, NamedOverlap, OverlapsOf, deduced_pair, Picks, HasForm, IsJoinedBy, IsFormed, IsJoined, IsUnjoined}
use Rattle.mkb_model.proofs.Lists.{any_in, in_any, clash}
use Rattle.mkb_model.proofs.journals.AlikeOverlaps.{joined_formed, joined_not_unjoined}
use Rattle.kb_laws.proofs.Renamings.{Back, normalises_instance}
use Rattle.kb_jobs.specs.Rules.{named, listed}
use Rattle.kb_jobs.specs.Groups.{AreFew, origin_of, overlaps_in, IsGroupOf, AreGroupsOf}
use Rattle.kb_jobs.specs.declared.groups.Group.{Group}
use Rattle.kb_jobs.specs.Closing.{equations_of, IsClosable, IsSettled, Settles, AddsRow}
use Rattle.kb_jobs.specs.declared.closing.CloseSnapshot.{CloseSnapshot}
use Rattle.kb_jobs.specs.declared.closing.Parting.{Parting}
use Rattle.kb_jobs.proofs.Adding.{deduced, one_more, take_next, groups_append}

-- ---- the members of which a condition holds

picks_skip : {A : Type 0} (P : A → Type 0) (xs ys : List A) (x : A) → Picks P xs ys → ¬ P x → Picks P (xs ++ x ∷ []) ys
picks_skip P [] ys x h n = inl (n, h)
picks_skip P (y ∷ xs) ys x (inl (k, h)) n = inl (k, picks_skip P xs ys x h n)
picks_skip P (y ∷ xs) ys x (inr (k, (zs, h, e))) n = inr (k, (zs, picks_skip P xs zs x h n, e))

picks_take : {A : Type 0} (P : A → Type 0) (xs ys : List A) (x : A) → Picks P xs ys → P x → Picks P (xs ++ x ∷ []) (ys ++ x ∷ [])
picks_take P [] ys x h p = inr (p, ([], refl, ap (λ z. z ++ x ∷ []) h))
picks_take P (y ∷ xs) ys x (inl (k, h)) p = inl (k, picks_take P xs ys x h p)
picks_take P (y ∷ xs) ys x (inr (k, (zs, h, e))) p = inr (k, (zs ++ x ∷ [], picks_take P xs zs x h p, ap (λ z. z ++ x ∷ []) e))

not_empty : {A : Type 0} (xs : List A) (x : A) → xs ++ x ∷ [] ≢ []
not_empty [] x e = cc
not_empty (y ∷ xs) x e = cc

-- ---- the rules without their names

pub as_listed : (names : List RuleRef) (rules : List Rule) → length names ≡ length rules → as_rules (named names rules) ≡ rules
as_listed [] [] h = refl
as_listed [] (r ∷ rules) h = absurd (omega (arith, h))
as_listed (a ∷ names) [] h = absurd (omega (arith, h))
as_listed (a ∷ names) (r ∷ rules) h = ap (λ z. r ∷ z) (as_listed names rules (omega (arith, h)))

pub held_listed : (s : CloseSnapshot) → IsClosable s → HoldVariables (as_rules (listed s.rules))
held_listed s h = subst {A = List Rule} HoldVariables (sym (as_listed s.rules.names.items s.rules.rules h.overlappable.as_many)) h.held

-- ---- settling

settled_joined : (s : CloseSnapshot) → IsClosable s → (os : List NamedOverlap) (seen : Parting) (o : NamedOverlap) → IsSettled s os seen → IsJoined (listed s.rules) (equations_of s.equations.items) o → IsSettled s (os ++ o ∷ []) seen
settled_joined s fits os seen o h j = record {
  formed = one_more (IsFormed (listed s.rules)) os o h.formed (joined_formed (listed s.rules) (held_listed s fits) (equations_of s.equations.items) o j);
  apart = h.apart;
  picked = picks_skip (IsUnjoined (listed s.rules) (equations_of s.equations.items)) os h.apart o h.picked (joined_not_unjoined (listed s.rules) (held_listed s fits) (equations_of s.equations.items) o j);
  proposed = h.proposed;
  joined = λ e. one_more (IsJoined (listed s.rules) (equations_of s.equations.items)) os o (h.joined e) j;
  some = h.some;
}

unjoined_formed : (rules : List NamedRule) (equations : List (Tree × Tree)) (o : NamedOverlap) → IsUnjoined rules equations o → IsFormed rules o
unjoined_formed rules equations o (x, e, (u, v, f, g, m)) = (x, e, ((u, f), (v, g)))

settled_apart : (s : CloseSnapshot) (os : List NamedOverlap) (old new : Parting) (o : NamedOverlap) → IsSettled s os old → IsUnjoined (listed s.rules) (equations_of s.equations.items) o
    → map origin_of new.pairs.items ≡ map origin_of old.pairs.items ++ deduced_pair o o.overlap.sides → new.any ≡ true → IsSettled s (os ++ o ∷ []) new
settled_apart s os old new o h j k t = record {
  formed = one_more (IsFormed (listed s.rules)) os o h.formed (unjoined_formed (listed s.rules) (equations_of s.equations.items) o j);
  apart = h.apart ++ o ∷ [];
  picked = picks_take (IsUnjoined (listed s.rules) (equations_of s.equations.items)) os h.apart o h.picked j;
  proposed = k ∙ ap (λ z. z ++ deduced o) h.proposed ∙ sym (flat_map-append deduced h.apart (o ∷ []) ∙ ap (λ z. flat_map deduced h.apart ++ z) (append-nil (deduced o)));
  joined = λ e. clash t e;
  some = λ e. not_empty h.apart o;
}

pub settles_joined : (s : CloseSnapshot) → IsClosable s → (o : NamedOverlap) (seen : Parting) (a b u v : Tree) → o.overlap.sides ≡ Ok (a, b) → HasForm (listed s.rules) a u → HasForm (listed s.rules) b v → IsJoinedBy (equations_of s.equations.items) u v → Settles s o seen seen None
settles_joined s fits o seen a b u v e f g m = (((a, b), e, ((u, f), (v, g))), λ before h. settled_joined s fits before seen o h ((a, b), e, (u, v, f, g, m)))

pub settles_apart : (s : CloseSnapshot) (o : NamedOverlap) (old new : Parting) (a b u v : Tree) → o.overlap.sides ≡ Ok (a, b) → HasForm (listed s.rules) a u → HasForm (listed s.rules) b v → ¬ IsJoinedBy (equations_of s.equations.items) u v
    → map origin_of new.pairs.items ≡ map origin_of old.pairs.items ++ deduced_pair o (Ok (a, b)) → new.any ≡ true → Settles s o old new None
settles_apart s o old new a b u v e f g m k t = (((a, b), e, ((u, f), (v, g))), λ before h. settled_apart s before old new o h ((a, b), e, (u, v, f, g, m)) (k ∙ ap (λ z. map origin_of old.pairs.items ++ deduced_pair o z) (sym e)) t)

-- ---- joining

canonical_cases : (u v : Tree) (b : Bool) → tree_eq u v ≡ b → (u ≡ v) ⊎ (canonical_pair u v ≡ Some (canonical u v))
canonical_cases u v true e = inl (tree_eq-true u v e)
canonical_cases u v false e = inr (ap (λ z. cond z None (Some (canonical u v))) e)

equal_none : (u v : Tree) → u ≡ v → canonical_pair u v ≡ None
equal_none u v e = ap (λ z. cond z None (Some (canonical u v))) (tree_eq-same u v e)

pub joined_none : (equations : List (Tree × Tree)) (u v : Tree) (b : Bool) → b ≡ true → None ≡ canonical_pair u v → IsTrue b ↔ IsJoinedBy equations u v
joined_none equations u v b t e = ((λ h. inl (trivial_none u v (sym e))), (λ h. t))

pub joined_some : (qs : List Pair) (u v : Tree) (q : Pair) (b : Bool) → b ≡ list_any (λ y. pair_eq y q) qs → Some q ≡ canonical_pair u v → IsTrue b ↔ IsJoinedBy (equations_of qs) u v
joined_some qs u v q b is e = (there, back)
  where
    there : IsTrue b → IsJoinedBy (equations_of qs) u v
    there h =
        let r = any_in (λ y. pair_eq y q) qs (sym is ∙ h) in
        inr (q, sym e, contains_map sides qs q (subst {A = Pair} (Contains qs) (pair_eq-same r.0 q r.2) r.1))

    back : IsJoinedBy (equations_of qs) u v → IsTrue b
    back (inl d) = none_some (sym (equal_none u v d) ∙ sym e)
    back (inr (p, d, c)) =
        let m = contains_mapped sides qs (sides p) c in
        let same : m.0 ≡ p = ap₂ {C = Pair} (λ x y. record { first = x; second = y }) (ap (λ (z : Tree × Tree). z.0) m.2) (ap (λ (z : Tree × Tree). z.1) m.2) in
        is ∙ in_any (λ y. pair_eq y q) qs q (subst {A = Pair} (Contains qs) (same ∙ some_is (sym d ∙ sym e)) m.1) (pair_eq-refl q)

-- ---- the variables of a normal form

form_variables : (rules : List Rule) → HoldVariables rules → (s u : Tree) (n : ℕ) → NormalisesTo rules s (form u n) → (x : ℕ) → Contains (variables_of u) x → ¬ (Contains (variables_of s) x → ⊥)
form_variables rules held s u n f x c missing = apart (agree_at (put x) variable u (sym (instance-variable (instance (put x) u)) ∙ (normalises_instance (put x) variable rules s (form u n) held back f).1 ∙ sym (instance-variable u)) x (occurs_from x u c))
  where
    same : (y : ℕ) → Occurs y s → put x y ≡ variable y
    same y o = ap (λ b. cond b (apply 0 no_trees) (variable y)) (ne_eqb y x (λ e. missing (subst {A = ℕ} (Contains (variables_of s)) e (occurs_to y s o))))

    back : Back (put x) variable s
    back = instance-variable (instance (put x) s) ∙ instance-agree (put x) variable s same ∙ instance-variable s

    apart : put x x ≡ variable x → ⊥
    apart e = let k : apply 0 no_trees ≡ variable x = sym (ap (λ b. cond b (apply 0 no_trees) (variable x)) (eq-eqb x x refl)) ∙ e in cc

pub forms_few : (rules : List NamedRule) → HoldVariables (as_rules rules) → (s t u v : Tree) → HasForm rules s u → HasForm rules t v → AreFew s t → AreFew u v
forms_few rules held s t u v (m, f) (n, g) few =
    let l = few_less (variables_of u ++ variables_of v) (variables_of s ++ variables_of t) (λ x c. ⊎_elim (λ i. Contains-append_left (variables_of s) (variables_of t) x (number_there (variables_of s) x (form_variables (as_rules rules) held s u m f x i))) (λ i. Contains-append_right (variables_of s) (variables_of t) x (number_there (variables_of t) x (form_variables (as_rules rules) held t v n g x i))) (Contains-append_cases (variables_of u) (variables_of v) x c)) in
    omega (arith, l, few)

-- ---- rows of groups

named_get : (names : List RuleRef) (rules : List Rule) (i : ℕ) (a : RuleRef) (r : Rule) → slice_get names i ≡ Some a → slice_get rules i ≡ Some r → slice_get (named names rules) i ≡ Some (record { ref = a; rule = r })
named_get [] rules i a r e f = none_some e
named_get (b ∷ names) [] i a r e f = none_some f
named_get (b ∷ names) (q ∷ rules) zero a r e f = ap₂ {C = Option NamedRule} (λ x y. Some (record { ref = x; rule = y })) (some_is e) (some_is f)
named_get (b ∷ names) (q ∷ rules) (suc i) a r e f = named_get names rules i a r e f

pub named_length : (names : List RuleRef) (rules : List Rule) → length names ≡ length rules → length (named names rules) ≡ length rules
named_length [] [] h = refl
named_length [] (r ∷ rules) h = absurd (omega (arith, h))
named_length (a ∷ names) [] h = absurd (omega (arith, h))
named_length (a ∷ names) (r ∷ rules) h = omega (arith, named_length names rules (omega (arith, h)))

abbrev with_each : NamedRule → List NamedRule → List (NamedRule × NamedRule)
with_each x ys = map (λ (y : NamedRule). (x, y)) ys

-- one more group of a row
pub row_more : (names : List RuleRef) (rules : List Rule) (i j : ℕ) (a c : RuleRef) (r q : Rule) (old mid new : List Group) (g : Group) → slice_get names i ≡ Some a → slice_get rules i ≡ Some r → slice_get names j ≡ Some c → slice_get rules j ≡ Some q
    → new ≡ mid ++ g ∷ [] → IsGroupOf a r c q g → AddsRow (named names rules) (take j (named names rules)) i old mid → AddsRow (named names rules) (take (suc j) (named names rules)) i old new
row_more names rules i j a c r q old mid new g e f k l is one h x pairs there so_far =
    let L : List NamedRule = named names rules in
    let y : NamedRule = record { ref = c; rule = q } in
    let x_is : record { ref = a; rule = r } ≡ x = some_is (sym (named_get names rules i a r e f) ∙ there) in
    let this : OverlapsOf x y (overlaps_in g) = subst {A = NamedRule} (λ z. OverlapsOf z y (overlaps_in g)) x_is one in
    let more : AreGroupsOf ((pairs ++ with_each x (take j L)) ++ (x, y) ∷ []) (mid ++ g ∷ []) = groups_append (pairs ++ with_each x (take j L)) ((x, y) ∷ []) mid (g ∷ []) (h x pairs there so_far) (g, [], refl, this, refl) in
    subst {A = List Group} (AreGroupsOf (pairs ++ with_each x (take (suc j) L))) (sym is)
    (subst {A = List (NamedRule × NamedRule)} (λ z. AreGroupsOf z (mid ++ g ∷ [])) (append_assoc pairs (with_each x (take j L)) ((x, y) ∷ []) ∙ ap (λ z. pairs ++ z) (sym (ap (with_each x) (take_next L j y (named_get names rules j c q k l)) ∙ map-append (λ (z : NamedRule). (x, z)) (take j L) (y ∷ [])))) more)

-- ---- normalising

-- what normalising answered, in the words of the snapshot
pub form_there : (rs : NamedRules) (rules : List Rule) (t : Tree) (a b : Normal) → length rs.names.items ≡ length rs.rules → rules ≡ rs.rules → a ≡ b → NormalisesTo rules t (normalised a) → NormalisesTo (as_rules (listed rs)) t (normalised b)
form_there rs rules t a b many e f h =
    subst {A = List Rule} (λ z. NormalisesTo z t (normalised b)) (e ∙ sym (as_listed rs.names.items rs.rules many)) (subst {A = Normal} (λ z. NormalisesTo rules t (normalised z)) f h)
