-- A deduced pair comes of two steps from one well-formed term: a most general unifier of well-formed terms is well formed.
use Rattle.std.proofs.Common.{ℕ, zero, suc, ◌≡◌, ◌⊎◌, inl, inr, refl, sym, ap, ap₂, ◌∙◌, subst, List, [], ◌∷◌, map, length, Contains, Bool, true, false, cond, Option, Some, None, ⊎_elim}
use Rattle.std.specs.Prelude.{Ok, option_and_then}
use Rattle.std.proofs.lemmas.List.Elements.{Contains-append_cases}
use Rattle.kb_lemmas.proofs.Membership.{contains_cases, contains_behind, contains_first, none_in, contains_mapped, contains_flat_map_back}
use Rattle.kb_lemmas.proofs.Options.{some_is, none_some}
use Rattle.kb_term.specs.Tree.{Tree, Trees, variable, apply, no_trees, more_trees, list_of}
use Rattle.kb_term.specs.Position.{subtree_at, replace_at, argument}
use Rattle.kb_term.specs.Substitution.{instance, instances, rename}
use Rattle.kb_term.specs.Pair.{Pair, canonical_pair, IsSameEquation}
use Rattle.kb_term.specs.Rule.{Rule, rule_of, IsVariantRule}
use Rattle.kb_term.specs.Signature.{Signature, HasArity, IsWellFormed, AreWellFormed, IsRuleOver}
use Rattle.kb_term.specs.Proving.{RewritesAt}
use Rattle.kb_term.specs.declared.limit.Limit.{Limit as TermLimit}
use Rattle.kb_term.proofs.Subtrees.{subtree-instance}
use Rattle.kb_term.proofs.Instances.{instance-instance}
use Rattle.kb_unify.specs.Unifier.{IsMostGeneralUnifier}
use Rattle.kb_overlap.specs.Overlap.{Overlap as Listed, IsOverlapOrLimit, ListsOverlaps, overlap_positions, overlap_limit, pair_or_limit}
use Rattle.kb_laws.proofs.Cleaning.{has_arity, clean, cleans, clean_well, length-instances}
use Rattle.kb_laws.proofs.Complete.{has_over}
use Rattle.kb_label.specs.Names.{Name}
use Rattle.kb_node.specs.declared.job.Deduced.{Deduced}
use Rattle.mkb_model.specs.Jobs.{ref_eq}
use Rattle.mkb_model.specs.Plain.{PlainNode, rule_kind, pair_in, sides}
use Rattle.mkb_model.specs.Proposals.{NamedRule, NamedOverlap, OverlapsOfAll, AreDeduced, both_ways, all_ways, Picks}
use Rattle.mkb_model.specs.Ready.{IsOn, IsDeducedFrom}
use Rattle.mkb_model.proofs.commits.RewritingRuns.{some_canonical}
use Rattle.mkb_model.proofs.nodes.DistinctPairs.{canonical_same, deduced_from}

-- ---- well-formed terms

kept_all : {Q : Type 0} (d : Q ⊎ (Q → ⊥)) (f : ℕ) (ts : Trees) → Q → ⊎_elim {C = ℕ → Trees → Tree} (λ h f ts. apply f ts) (λ h f ts. variable 0) d f ts ≡ apply f ts
kept_all (inl h) f ts q = refl
kept_all (inr h) f ts q = absurd (h q)

-- cleaning an instance of a well-formed term
mutual
  clean-instance : (g : Signature) (m : ℕ → Tree) (t : Tree) → IsWellFormed g t → clean g (instance m t) ≡ instance (λ x. clean g (m x)) t
  clean-instance g m (variable n) w = refl
  clean-instance g m (apply f ts) w =
      kept_all (has_arity g f (length (list_of (instances m ts)))) f (cleans g (instances m ts)) (subst {A = ℕ} (HasArity g f) (sym (length-instances m ts)) w.0) ∙ ap (apply f) (cleans-instances g m ts w.1)

  cleans-instances : (g : Signature) (m : ℕ → Tree) (ts : Trees) → AreWellFormed g ts → cleans g (instances m ts) ≡ instances (λ x. clean g (m x)) ts
  cleans-instances g m no_trees w = refl
  cleans-instances g m (more_trees t ts) w = ap₂ more_trees (clean-instance g m t w.0) (cleans-instances g m ts w.1)

-- a term with a well-formed instance is well formed
mutual
  well_from : (g : Signature) (m : ℕ → Tree) (t : Tree) → IsWellFormed g (instance m t) → IsWellFormed g t
  well_from g m (variable n) w = tt
  well_from g m (apply f ts) w = (subst {A = ℕ} (HasArity g f) (length-instances m ts) w.0, wells_from g m ts w.1)

  wells_from : (g : Signature) (m : ℕ → Tree) (ts : Trees) → AreWellFormed g (instances m ts) → AreWellFormed g ts
  wells_from g m no_trees w = tt
  wells_from g m (more_trees t ts) w = (well_from g m t w.0, wells_from g m ts w.1)

-- an instance of a well-formed term under well-formed ones is well formed
mutual
  pub well_instance : (g : Signature) (m : ℕ → Tree) (t : Tree) → ((n : ℕ) → IsWellFormed g (m n)) → IsWellFormed g t → IsWellFormed g (instance m t)
  well_instance g m (variable n) h w = h n
  well_instance g m (apply f ts) h w = (subst {A = ℕ} (HasArity g f) (sym (length-instances m ts)) w.0, wells_instance g m ts h w.1)

  wells_instance : (g : Signature) (m : ℕ → Tree) (ts : Trees) → ((n : ℕ) → IsWellFormed g (m n)) → AreWellFormed g ts → AreWellFormed g (instances m ts)
  wells_instance g m no_trees h w = tt
  wells_instance g m (more_trees t ts) h w = (well_instance g m t h w.0, wells_instance g m ts h w.1)

well_argument : (g : Signature) (ts : Trees) (i : ℕ) (u : Tree) → AreWellFormed g ts → argument ts i ≡ Some u → IsWellFormed g u
well_argument g ts zero u w e = none_some e
well_argument g no_trees (suc i) u w e = none_some e
well_argument g (more_trees t ts) (suc zero) u w e = subst {A = Tree} (IsWellFormed g) (some_is e) w.0
well_argument g (more_trees t ts) (suc (suc i)) u w e = well_argument g ts (suc i) u w.1 e

pub well_subtree : (g : Signature) (p : List ℕ) (t u : Tree) → IsWellFormed g t → subtree_at t p ≡ Some u → IsWellFormed g u
well_subtree g [] t u w e = subst {A = Tree} (IsWellFormed g) (some_is e) w
well_subtree g (i ∷ p) (variable n) u w e = none_some e
well_subtree g (i ∷ p) (apply f ts) u w e = go (argument ts i) refl (λ x k l. well_subtree g p x u k l) e
  where
    go : (o : Option Tree) → argument ts i ≡ o → ((x : Tree) → IsWellFormed g x → subtree_at x p ≡ Some u → IsWellFormed g u) → option_and_then (λ t. subtree_at t p) o ≡ Some u → IsWellFormed g u
    go None h ih k = none_some k
    go (Some x) h ih k = ih x (well_argument g ts i x w.1 h) k

-- a most general unifier of well-formed terms is well formed: what cleaning makes of it is an instance of it
pub well_unifier : (g : Signature) (m : ℕ → Tree) (s t : Tree) → IsMostGeneralUnifier m s t → IsWellFormed g s → IsWellFormed g t → (n : ℕ) → IsWellFormed g (m n)
well_unifier g m s t u ws wt n =
    let k = u.most_general (λ x. clean g (m x)) (sym (clean-instance g m s ws) ∙ ap (clean g) u.unifies ∙ clean-instance g m t wt) in
    well_from g k.0 (m n) (subst {A = Tree} (IsWellFormed g) (k.1 n) (clean_well g (m n)))

-- ---- overlaps

-- each listed overlap is one of the two rules
listed_overlap : (a c : Rule) (ps : List (List ℕ)) (os : List Listed) → ListsOverlaps a c ps os → (o : Listed) → Contains os o → IsOverlapOrLimit a c o
listed_overlap a c [] os h o i = none_in (subst {A = List Listed} (λ xs. Contains xs o) h i)
listed_overlap a c (p ∷ ps) os (inl h) o i = listed_overlap a c ps os h.1 o i
listed_overlap a c (p ∷ ps) os (inr (x, rest, e, at, this, later)) o i = ⊎_elim (λ q. subst {A = Listed} (IsOverlapOrLimit a c) q this) (λ k. listed_overlap a c ps rest later o k) (contains_cases x rest o (subst {A = List Listed} (λ xs. Contains xs o) e i))

-- each named overlap is one of two of the rules
pub named_overlap : (es : List (NamedRule × NamedRule)) (os : List NamedOverlap) → OverlapsOfAll es os → (o : NamedOverlap) → Contains os o
    → (e : NamedRule × NamedRule) × Contains es e × (o.outer ≡ e.0.ref) × (o.inner ≡ e.1.ref) × IsOverlapOrLimit e.0.rule e.1.rule o.overlap
named_overlap [] os h o i = none_in (subst {A = List NamedOverlap} (λ xs. Contains xs o) h i)
named_overlap (e ∷ es) os (here, later, (found, lists, is), rest, all) o i = ⊎_elim
    (λ k. let m = contains_mapped (λ x. record { outer = e.0.ref; inner = e.1.ref; overlap = x }) found o (subst {A = List NamedOverlap} (λ xs. Contains xs o) is k) in
    (e, contains_first e es, sym (ap (λ (z : NamedOverlap). z.outer) m.2), sym (ap (λ (z : NamedOverlap). z.inner) m.2), subst {A = Listed} (IsOverlapOrLimit e.0.rule e.1.rule) (ap (λ (z : NamedOverlap). z.overlap) m.2) (listed_overlap e.0.rule e.1.rule (overlap_positions e.0.rule (ref_eq e.0.ref e.1.ref)) found lists m.0 m.1)))
    (λ k. let r = named_overlap es later rest o k in (r.0, contains_behind e es r.0 r.1, r.2, r.3, r.4))
    (Contains-append_cases here later o (subst {A = List NamedOverlap} (λ xs. Contains xs o) all i))

-- the process has the named rule, which is one over the signature
pub record HasNamed (g : Signature) (xs : List PlainNode) (p : Name) (x : NamedRule) : Type 0 where
  pub pair : Pair
  pub there : pair_in xs x.ref.node ≡ Some pair
  pub on : IsOn xs p x.ref.node (rule_kind x.ref.dir)
  pub is : rule_of pair x.ref.dir ≡ x.rule
  pub over : IsRuleOver g x.rule

pub same_sides : (o : Option TermLimit) (s t u v : Tree) → pair_or_limit o s t ≡ Ok (u, v) → (s ≡ u) × (t ≡ v)
same_sides None s t u v e = let k : (s, t) ≡ (u, v) = cc in (ap (λ (z : Tree × Tree). z.0) k, ap (λ (z : Tree × Tree). z.1) k)
same_sides (Some l) s t u v e = absurd (cc)

-- the two sides of an overlap of two rules of a process come of two steps from one well-formed term
overlap_deduced : (g : Signature) (xs : List PlainNode) (p : Name) (x y : NamedRule) (o : Listed) → HasNamed g xs p x → HasNamed g xs p y → IsOverlapOrLimit x.rule y.rule o → (u v : Tree) → o.sides ≡ Ok (u, v) → (q : Pair) → canonical_pair u v ≡ Some q → IsDeducedFrom g xs p q
overlap_deduced g xs p x y o hx hy l u v sided q canonical = record {
  peak = instance l.m x.rule.left;
  s = u;
  t = v;
  well = well_instance g l.m x.rule.left (well_unifier g l.m l.overlaps.subterm l.renamed.left l.overlaps.unifier (well_subtree g o.position x.rule.left l.overlaps.subterm hx.over.left l.overlaps.there) renamed_over.left) hx.over.left;
  a = x.ref;
  a_pair = hx.pair;
  a_on = hx.on;
  a_there = hx.there;
  a_at = [];
  a_step = subst {A = Rule} (λ r. RewritesAt r [] (instance l.m x.rule.left) u) (sym hx.is) (l.m, record { redex = refl; result = ap Some (sym l.pair.by_outer ∙ equal.0) });
  c = y.ref;
  c_pair = hy.pair;
  c_on = hy.on;
  c_there = hy.there;
  c_at = o.position;
  c_step = subst {A = Rule} (λ r. RewritesAt r o.position (instance l.m x.rule.left) v) (sym hy.is) (
    (λ n. instance l.m (variable (variant.0 n))),
    record {
      redex = subtree-instance l.m o.position x.rule.left l.overlaps.subterm l.overlaps.there ∙ ap Some (l.overlaps.unifier.unifies ∙ renamed_is y.rule.left l.renamed.left variant.2.there);
      result = ap (replace_at (instance l.m x.rule.left) o.position) (sym (renamed_is y.rule.right l.renamed.right variant.3.there)) ∙ l.pair.by_inner ∙ ap Some equal.1;
    },
  );
  same = subst {A = Pair} (λ w. IsSameEquation (u, v) (sides w)) (some_canonical u v q canonical) (canonical_same u v);
}
  where
    variant : IsVariantRule y.rule l.renamed
    variant = l.renamed_apart.variant

    renamed_over : IsRuleOver g l.renamed
    renamed_over = has_over g (y.rule ∷ []) (λ r i. ⊎_elim (λ e. subst {A = Rule} (IsRuleOver g) e hy.over) (λ k. none_in k) (contains_cases y.rule [] r i)) l.renamed (y.rule, contains_first y.rule [], variant)

    equal : (l.s ≡ u) × (l.t ≡ v)
    equal = same_sides (overlap_limit x.rule l.renamed l.m l.s l.t) l.s l.t u v (sym l.sides ∙ sided)

    renamed_is : (s t : Tree) → rename variant.0 s ≡ t → instance l.m t ≡ instance (λ n. instance l.m (variable (variant.0 n))) s
    renamed_is s t e = ap (instance l.m) (sym e) ∙ instance-instance l.m (λ n. variable (variant.0 n)) s

-- what is proposed of overlaps of a process's rules is deduced from them
pub overlaps_deduced : (g : Signature) (xs : List PlainNode) (p : Name) (es : List (NamedRule × NamedRule)) (all some : List NamedOverlap) (ds : List Deduced) → OverlapsOfAll es all → ((o : NamedOverlap) → Contains some o → Contains all o)
    → ((e : NamedRule × NamedRule) → Contains es e → HasNamed g xs p e.0 × HasNamed g xs p e.1) → AreDeduced ds some → (d : Deduced) → Contains ds d → IsDeducedFrom g xs p d.pair
overlaps_deduced g xs p es all some ds lists sub named proposed d i =
    let r = deduced_from ds some proposed d i in
    let k = named_overlap es all lists r.0 (sub r.0 r.1) in
    let h = named k.0 k.1 in
    overlap_deduced g xs p k.0.0 k.0.1 r.0.overlap h.0 h.1 k.4 r.2 r.3 r.4 d.pair r.5

-- ---- which pairs of rules

pub both_ways_in : (x y : NamedRule) (e : NamedRule × NamedRule) → Contains (both_ways x y) e → ((e.0 ≡ x) × (e.1 ≡ y)) ⊎ ((e.0 ≡ y) × (e.1 ≡ x))
both_ways_in x y e = go (ref_eq x.ref y.ref)
  where
    first : (x, y) ≡ e → ((e.0 ≡ x) × (e.1 ≡ y)) ⊎ ((e.0 ≡ y) × (e.1 ≡ x))
    first q = inl (sym (ap (λ (z : NamedRule × NamedRule). z.0) q), sym (ap (λ (z : NamedRule × NamedRule). z.1) q))

    second : (y, x) ≡ e → ((e.0 ≡ x) × (e.1 ≡ y)) ⊎ ((e.0 ≡ y) × (e.1 ≡ x))
    second q = inr (sym (ap (λ (z : NamedRule × NamedRule). z.0) q), sym (ap (λ (z : NamedRule × NamedRule). z.1) q))

    go : (b : Bool) → Contains (cond b ((x, y) ∷ []) ((x, y) ∷ (y, x) ∷ [])) e → ((e.0 ≡ x) × (e.1 ≡ y)) ⊎ ((e.0 ≡ y) × (e.1 ≡ x))
    go true i = ⊎_elim first (λ k. none_in k) (contains_cases (x, y) [] e i)
    go false i = ⊎_elim first (λ k. ⊎_elim second (λ q. none_in q) (contains_cases (y, x) [] e k)) (contains_cases (x, y) ((y, x) ∷ []) e i)

pub all_ways_in : (rs : List NamedRule) (e : NamedRule × NamedRule) → Contains (all_ways rs) e → Contains rs e.0 × Contains rs e.1
all_ways_in rs e i =
    let f = contains_flat_map_back (λ x. map (λ y. (x, y)) rs) rs e i in
    let m = contains_mapped (λ y. (f.0, y)) rs e f.2 in
    (subst {A = NamedRule} (Contains rs) (ap (λ (z : NamedRule × NamedRule). z.0) m.2) f.1, subst {A = NamedRule} (Contains rs) (ap (λ (z : NamedRule × NamedRule). z.1) m.2) m.1)

pub picks_in : {A : Type 0} (P : A → Type 0) (xs ys : List A) → Picks P xs ys → (y : A) → Contains ys y → Contains xs y
picks_in {A} P [] ys h y i = subst {A = List A} (λ zs. Contains zs y) h i
picks_in P (x ∷ xs) ys (inl h) y i = contains_behind x xs y (picks_in P xs ys h.1 y i)
picks_in {A} P (x ∷ xs) ys (inr (h, (zs, k, e))) y i = ⊎_elim (λ q. subst {A = A} (Contains (x ∷ xs)) q (contains_first x xs)) (λ j. contains_behind x xs y (picks_in P xs zs k y j)) (contains_cases x zs y (subst {A = List A} (λ zs. Contains zs y) e i))
