-- Where rules are reduced by one another and each pair of an overlap that doesn't join is a rule or an equation already, all overlaps join.
use Rattle.std.proofs.Common.{ℕ, ◌≡◌, ◌≢◌, ◌⊎◌, inl, inr, refl, sym, ap, ◌∙◌, subst, List, [], ◌∷◌, Contains, Bool, true, false, Option, Some, None, ⊎_elim}
use Rattle.std.specs.Prelude.{Result, Ok, option_to_list}
use Rattle.kb_lemmas.proofs.Membership.{contains_cases, contains_behind, contains_first, none_in, contains_map, contains_mapped, contains_flat_map}
use Rattle.kb_lemmas.proofs.Options.{some_is}
use Rattle.kb_term.specs.Tree.{Tree, variable, apply, variables_of}
use Rattle.kb_term.specs.Position.{subtree_at, replace_at, function_positions_of, function_positions_in}
use Rattle.kb_term.specs.Substitution.{instance, IsVariant}
use Rattle.kb_term.specs.Pair.{Pair, canonical_pair, IsSameEquation}
use Rattle.kb_term.specs.Rule.{Rule, IsRule, IsVariantRule, rule_between}
use Rattle.kb_term.specs.declared.limit.Limit.{Limit as TermLimit}
use Rattle.kb_term.specs.declared.origin.RuleRef.{RuleRef}
use Rattle.kb_term.proofs.Instances.{instance-instance, instance-agree, instance-variable}
use Rattle.kb_term.proofs.Subterms.{subterm_at}
use Rattle.kb_unify.specs.Unifier.{IsMostGeneralUnifier}
use Rattle.kb_overlap.specs.Overlap.{Overlap as Listed, IsOverlapOrLimit, HasNoOverlapAt, ListsOverlaps, overlap_positions, overlap_limit}
use Rattle.kb_overlap.proofs.Uniqueness.{same_canonical_pair}
use Rattle.kb_laws.proofs.Overlaps.{at_listed, shifted_apart, unifies_apart}
use Rattle.kb_rewrite.specs.NormalForm.{IsNormal, Encompasses, HoldVariables}
use Rattle.kb_node.specs.declared.job.Deduced.{Deduced}
use Rattle.mkb_model.specs.Jobs.{ref_eq}
use Rattle.mkb_model.specs.Plain.{sides}
use Rattle.mkb_model.specs.Proposals.{NamedRule, NamedOverlap, as_rules, HasForm, IsJoinedBy, IsUnjoined, IsUnjoining, AreDeduced, Picks, all_ways, OverlapsOf, deduced_pair}
use Rattle.mkb_model.proofs.Lists.{decide}
use Rattle.mkb_model.proofs.commits.RewritingRuns.{trivial_none, some_canonical}
use Rattle.mkb_model.proofs.nodes.DistinctPairs.{canonical_same}
use Rattle.mkb_model.proofs.commits.Views.{rule_sym, rule_trans}
use Rattle.mkb_model.proofs.commits.Deductions.{same_sides}
use Rattle.mkb_model.proofs.closing.Completed.{overlaps_among, both_in}
use Rattle.mkb_model.proofs.closing.NormalTerms.{carried, normal_back, variant_steps, run_stays, own_form, one_form, FirstStep, first_step}

-- ---- lists

picks_hold : {A : Type 0} (P : A → Type 0) (xs ys : List A) → Picks P xs ys → (y : A) → Contains ys y → P y
picks_hold {A} P [] ys h y i = none_in (subst {A = List A} (λ zs. Contains zs y) h i)
picks_hold P (x ∷ xs) ys (inl h) y i = picks_hold P xs ys h.1 y i
picks_hold {A} P (x ∷ xs) ys (inr (h, (zs, k, e))) y i = ⊎_elim (λ q. subst {A = A} P q h) (λ j. picks_hold P xs zs k y j) (contains_cases x zs y (subst {A = List A} (λ zs. Contains zs y) e i))

picked_or_not : {A : Type 0} (P : A → Type 0) (xs ys : List A) → Picks P xs ys → (x : A) → Contains xs x → (¬ P x) ⊎ Contains ys x
picked_or_not P [] ys h x i = none_in i
picked_or_not {A} P (z ∷ xs) ys (inl h) x i = ⊎_elim (λ q. inl (subst {A = A} (λ w. ¬ P w) q h.0)) (λ k. picked_or_not P xs ys h.1 x k) (contains_cases z xs x i)
picked_or_not {A} P (z ∷ xs) ys (inr (h, (zs, k, e))) x i = ⊎_elim
    (λ q. inr (subst {A = List A} (λ l. Contains l x) (sym e) (subst {A = A} (Contains (z ∷ zs)) q (contains_first z zs))))
    (λ j. ⊎_elim (λ n. inl n) (λ l. inr (subst {A = List A} (λ l. Contains l x) (sym e) (contains_behind z zs x l))) (picked_or_not P xs zs k x j))
    (contains_cases z xs x i)

some_member : {A : Type 0} (xs : List A) → xs ≢ [] → (x : A) × Contains xs x
some_member [] h = absurd (h refl)
some_member (x ∷ xs) h = (x, contains_first x xs)

-- each overlap whose pair is not trivial is proposed
deduced_to : (ds : List Deduced) (os : List NamedOverlap) → AreDeduced ds os → (o : NamedOverlap) → Contains os o → (e : Tree × Tree) → o.overlap.sides ≡ Ok e → (z : Pair) → canonical_pair e.0 e.1 ≡ Some z → (d : Deduced) × Contains ds d × (d.pair ≡ z)
deduced_to ds os h o i e sided z c =
    let t : RuleRef × RuleRef × List ℕ × Pair = (o.outer, o.inner, o.overlap.position, z) in
    let here : Contains (deduced_pair o o.overlap.sides) t = subst {A = Result (Tree × Tree) TermLimit} (λ r. Contains (deduced_pair o r) t) (sym sided)
    (contains_map (λ q. (o.outer, o.inner, o.overlap.position, q)) (option_to_list (canonical_pair e.0 e.1)) z (subst {A = Option Pair} (λ q. Contains (option_to_list q) z) (sym c) (contains_first z []))) in
    let m = contains_mapped (λ (d : Deduced). (d.outer, d.inner, d.position, d.pair)) ds t (subst {A = List (RuleRef × RuleRef × List ℕ × Pair)} (λ ts. Contains ts t) (sym h) (contains_flat_map (λ (o : NamedOverlap). deduced_pair o o.overlap.sides) os o t i here)) in
    (m.0, m.1, ap (λ (x : RuleRef × RuleRef × List ℕ × Pair). x.3) m.2)

-- ---- reduced rules

-- the pair is one of the equations, or a rule in one direction or the other
abbrev pub IsHeld : List NamedRule → List (Tree × Tree) → Pair → Type 0
IsHeld rs eqs z = Contains eqs (z.first, z.second) ⊎ ((x : NamedRule) × Contains rs x × (IsVariantRule x.rule (rule_between z.first z.second) ⊎ IsVariantRule x.rule (rule_between z.second z.first)))

-- right sides and equations are normal, and left sides are reduced by variants alone; rules of one name are one
pub record AreReduced (rs : List NamedRule) (eqs : List (Tree × Tree)) : Type 0 where
  pub are_rules : (x : NamedRule) → Contains rs x → IsRule x.rule
  pub right : (x : NamedRule) → Contains rs x → IsNormal (as_rules rs) x.rule.right
  pub left : (x y : NamedRule) → Contains rs x → Contains rs y → Encompasses x.rule.left y.rule.left → IsVariant x.rule.left y.rule.left
  pub equations : (e : Tree × Tree) → Contains eqs e → IsNormal (as_rules rs) e.0 × IsNormal (as_rules rs) e.1
  pub named : (x y : NamedRule) → Contains rs x → Contains rs y → ref_eq x.ref y.ref ≡ true → x.rule ≡ y.rule

-- a rule of a held pair leads from one side of an equation that is the same to the other
held_rule : (x : Rule) (s t : Tree) (z : Pair) → IsSameEquation (s, t) (sides z) → IsVariantRule x (rule_between z.first z.second) ⊎ IsVariantRule x (rule_between z.second z.first) → IsVariantRule x (rule_between s t) ⊎ IsVariantRule x (rule_between t s)
held_rule x s t z (inl v) (inl h) = inl (rule_trans x (rule_between z.first z.second) (rule_between s t) h (rule_sym (rule_between s t) (rule_between z.first z.second) v))
held_rule x s t z (inl v) (inr h) = inr (rule_trans x (rule_between z.second z.first) (rule_between t s) h (rule_sym (rule_between t s) (rule_between z.second z.first) (v.0, v.1, v.3, v.2)))
held_rule x s t z (inr v) (inl h) = inr (rule_trans x (rule_between z.first z.second) (rule_between t s) h (rule_sym (rule_between t s) (rule_between z.first z.second) (v.0, v.1, v.3, v.2)))
held_rule x s t z (inr v) (inr h) = inl (rule_trans x (rule_between z.second z.first) (rule_between s t) h (rule_sym (rule_between s t) (rule_between z.second z.first) v))

canonical_is_same : (s t : Tree) (z : Pair) → canonical_pair s t ≡ Some z → IsSameEquation (s, t) (sides z)
canonical_is_same s t z c = subst {A = Pair} (λ y. IsSameEquation (s, t) (sides y)) (some_canonical s t z c) (canonical_same s t)

subterm_root : (t : Tree) → subterm_at t [] ≡ Some t
subterm_root (variable n) = refl
subterm_root (apply f ts) = refl

root_position : (t : Tree) → ((n : ℕ) → ¬ (t ≡ variable n)) → Contains (function_positions_of t) []
root_position (variable n) h = absurd (h n refl)
root_position (apply f ts) h = contains_first [] (function_positions_in ts 1)

module _ (rs : List NamedRule) (eqs : List (Tree × Tree)) (reduced : AreReduced rs eqs) (pairs : List Deduced) (u : IsUnjoining rs eqs pairs) (held : (d : Deduced) → Contains pairs d → IsHeld rs eqs d.pair) where
  hold : HoldVariables (as_rules rs)
  hold rule i = let m = contains_mapped (λ (r : NamedRule). r.rule) rs rule i in subst {A = Rule} (λ z. (n : ℕ) → Contains (variables_of z.right) n → Contains (variables_of z.left) n) m.2 (reduced.are_rules m.0 m.1).holds_variables

  in_rules : (x : NamedRule) → Contains rs x → Contains (as_rules rs) x.rule
  in_rules x i = contains_map (λ (r : NamedRule). r.rule) rs x i

  -- ---- two rules with one left side

  -- two rules match one term, the first by a renaming; what they make of it is normal, and doesn't join
  record TwoMatch (x y : NamedRule) (s v w : Tree) : Type 0 where
    in_x : Contains rs x
    in_y : Contains rs y
    differ : ref_eq x.ref y.ref ≡ false
    m : ℕ → Tree
    back : ℕ → Tree
    k : ℕ → Tree
    first : instance m x.rule.left ≡ s
    first_back : instance back s ≡ x.rule.left
    second : instance k y.rule.left ≡ s
    makes_first : v ≡ instance m x.rule.right
    makes_second : w ≡ instance k y.rule.right
    first_normal : IsNormal (as_rules rs) v
    second_normal : IsNormal (as_rules rs) w
    unjoined : ¬ IsJoinedBy eqs v w

  module _ (x y : NamedRule) (s v w : Tree) (f : TwoMatch x y s v w) where
    meets : instance f.m x.rule.left ≡ instance f.k y.rule.left
    meets = f.first ∙ sym f.second

    -- what an overlap of the two at the root says
    module _ (o : Listed) (at : o.position ≡ []) (h : IsOverlapOrLimit x.rule y.rule o) where
      z : (z : ℕ → Tree) × (instance z x.rule.left ≡ instance z h.renamed.left) × (instance z x.rule.left ≡ instance f.m x.rule.left) × (instance z x.rule.right ≡ instance f.m x.rule.right) × (instance z h.renamed.right ≡ instance f.k y.rule.right)
      z = unifies_apart x.rule y.rule h.renamed h.renamed_apart [] x.rule.left f.m f.k (subterm_root x.rule.left) meets

      whole : h.overlaps.subterm ≡ x.rule.left
      whole = some_is (sym h.overlaps.there ∙ ap (subtree_at x.rule.left) at)

      unifier : IsMostGeneralUnifier h.m x.rule.left h.renamed.left
      unifier = subst {A = Tree} (λ t. IsMostGeneralUnifier h.m t h.renamed.left) whole h.overlaps.unifier

      abbrev j : ℕ → Tree
      j = (unifier.most_general z.0 z.1).0

      along : (t : Tree) → instance z.0 t ≡ instance j (instance h.m t)
      along t = instance-agree z.0 (λ n. instance j (h.m n)) t (λ n q. (unifier.most_general z.0 z.1).1 n) ∙ sym (instance-instance j h.m t)

      inner : instance h.m h.renamed.right ≡ h.t
      inner = some_is (subst {A = List ℕ} (λ p. replace_at (instance h.m x.rule.left) p (instance h.m h.renamed.right) ≡ Some h.t) at h.pair.by_inner)

      down_first : v ≡ instance j h.s
      down_first = f.makes_first ∙ sym z.3 ∙ along x.rule.right ∙ ap (instance j) (sym h.pair.by_outer)

      down_second : w ≡ instance j h.t
      down_second = f.makes_second ∙ sym z.4 ∙ along h.renamed.right ∙ ap (instance j) inner

      abbrev up : ℕ → Tree
      up n = instance h.m (f.back n)

      up_peak : instance up s ≡ instance h.m x.rule.left
      up_peak = sym (instance-instance h.m f.back s) ∙ ap (instance h.m) f.first_back

      up_first : instance up v ≡ h.s
      up_first = ap (instance up) f.makes_first ∙ instance-instance up f.m x.rule.right
          ∙ carried x.rule (reduced.are_rules x f.in_x) (λ n. instance up (f.m n)) h.m (sym (instance-instance up f.m x.rule.left) ∙ ap (instance up) f.first ∙ up_peak)
          ∙ sym h.pair.by_outer

      abbrev r : ℕ → ℕ
      r = h.renamed_apart.variant.0

      up_second : instance up w ≡ h.t
      up_second = ap (instance up) f.makes_second ∙ instance-instance up f.k y.rule.right
          ∙ carried y.rule (reduced.are_rules y f.in_y) (λ n. instance up (f.k n)) (λ n. instance h.m (variable (r n)))
          (sym (instance-instance up f.k y.rule.left) ∙ ap (instance up) f.second ∙ up_peak ∙ unifier.unifies ∙ ap (instance h.m) (sym h.renamed_apart.variant.2.there) ∙ instance-instance h.m (λ n. variable (r n)) y.rule.left)
          ∙ sym (instance-instance h.m (λ n. variable (r n)) y.rule.right) ∙ ap (instance h.m) h.renamed_apart.variant.3.there ∙ inner

      same_pair : canonical_pair v w ≡ canonical_pair h.s h.t
      same_pair = same_canonical_pair up j v w h.s h.t up_first (sym down_first) up_second (sym down_second)

      s_normal : IsNormal (as_rules rs) h.s
      s_normal = normal_back (as_rules rs) j h.s v f.first_normal down_first

      t_normal : IsNormal (as_rules rs) h.t
      t_normal = normal_back (as_rules rs) j h.t w f.second_normal down_second

      -- the two terms of the overlap don't join
      still_unjoined : ¬ IsJoinedBy eqs h.s h.t
      still_unjoined (inl e) = f.unjoined (inl (down_first ∙ ap (instance j) e ∙ sym down_second))
      still_unjoined (inr (q, c, i)) = f.unjoined (inr (q, same_pair ∙ c, i))

      abbrev named : NamedOverlap
      named = record { outer = x.ref; inner = y.ref; overlap = o }

      -- so the overlap is proposed, and its pair is held: as an equation it would join, and a rule would rewrite a side
      never : Contains u.overlaps named → ⊥
      never i = ⊎_elim (λ n. n unjoined) listed (picked_or_not (IsUnjoined rs eqs) u.overlaps u.listed u.picked named i)
        where
          e : Tree × Tree
          e = (u.formed named i).0

          sided : o.sides ≡ Ok (e.0, e.1)
          sided = (u.formed named i).1

          equal : (h.s ≡ e.0) × (h.t ≡ e.1)
          equal = same_sides (overlap_limit x.rule h.renamed h.m h.s h.t) h.s h.t e.0 e.1 (sym h.sides ∙ sided)

          forms : ((a : Tree) × HasForm rs e.0 a) × ((b : Tree) × HasForm rs e.1 b)
          forms = (u.formed named i).2

          e0 : IsNormal (as_rules rs) e.0
          e0 = subst {A = Tree} (IsNormal (as_rules rs)) equal.0 s_normal

          e1 : IsNormal (as_rules rs) e.1
          e1 = subst {A = Tree} (IsNormal (as_rules rs)) equal.1 t_normal

          apart : ¬ IsJoinedBy eqs e.0 e.1
          apart = subst {A = Tree} (λ a. ¬ IsJoinedBy eqs a e.1) equal.0 (subst {A = Tree} (λ a. ¬ IsJoinedBy eqs h.s a) equal.1 still_unjoined)

          unjoined : IsUnjoined rs eqs named
          unjoined = (e, sided, (forms.0.0, forms.1.0, forms.0.1, forms.1.1, subst {A = Tree} (λ a. ¬ IsJoinedBy eqs a forms.1.0) (sym (own_form rs e.0 forms.0.0 e0 forms.0.1)) (subst {A = Tree} (λ a. ¬ IsJoinedBy eqs e.0 a) (sym (own_form rs e.1 forms.1.0 e1 forms.1.1)) apart)))

          listed : Contains u.listed named → ⊥
          listed l = go (canonical_pair e.0 e.1) refl
            where
              go : (c : Option Pair) → canonical_pair e.0 e.1 ≡ c → ⊥
              go None c = apart (inl (trivial_none e.0 e.1 c))
              go (Some q) c =
                  let d = deduced_to pairs u.listed u.proposed named l e sided q c in
                  ⊎_elim (λ k. apart (inr (q, c, k)))
                  (λ k. ⊎_elim (λ a. e0 e.1 (variant_steps (as_rules rs) k.0.rule (in_rules k.0 k.1) e.0 e.1 a)) (λ a. e1 e.0 (variant_steps (as_rules rs) k.0.rule (in_rules k.0 k.1) e.1 e.0 a)) (held_rule k.0.rule e.0 e.1 q (canonical_is_same e.0 e.1 q c) k.2))
                  (subst {A = Pair} (IsHeld rs eqs) d.2 (held d.0 d.1))

    -- the two rules overlap at the root
    never_match : ⊥
    never_match = go (at_listed x.rule y.rule (function_positions_of x.rule.left) k.1.0 lists [] (root_position x.rule.left (reduced.are_rules x f.in_x).no_variable))
      where
        k : (here : List NamedOverlap) × OverlapsOf x y here × ((o : NamedOverlap) → Contains here o → Contains u.overlaps o)
        k = overlaps_among (all_ways rs) u.overlaps u.all (x, y) (both_in rs x y f.in_x f.in_y)

        lists : ListsOverlaps x.rule y.rule (function_positions_of x.rule.left) k.1.0
        lists = subst {A = Bool} (λ b. ListsOverlaps x.rule y.rule (overlap_positions x.rule b) k.1.0) f.differ k.1.1

        go : HasNoOverlapAt x.rule y.rule [] ⊎ ((o : Listed) × Contains k.1.0 o × (o.position ≡ []) × IsOverlapOrLimit x.rule y.rule o) → ⊥
        go (inl none) =
            let a = shifted_apart x.rule y.rule in
            let z = unifies_apart x.rule y.rule _ a [] x.rule.left f.m f.k (subterm_root x.rule.left) meets in
            none _ x.rule.left a refl (z.0, z.1)
        go (inr (o, i, at, h)) = never o at h (k.2 (record { outer = x.ref; inner = y.ref; overlap = o }) (subst {A = List NamedOverlap} (λ zs. Contains zs (record { outer = x.ref; inner = y.ref; overlap = o })) (sym k.1.2) (contains_map (λ o. record { outer = x.ref; inner = y.ref; overlap = o }) k.1.0 o i)))

  -- ---- a rule between the two sides

  -- a term that a rule takes to another one has the same normal form, or another rule takes it to its own
  module _ (x : NamedRule) (i : Contains rs x) (s t a b : Tree) (v : IsVariantRule x.rule (rule_between s t)) (fs : HasForm rs s a) (ft : HasForm rs t b) where
    abbrev back : ℕ → Tree
    back n = variable (v.1 n)

    end_normal : IsNormal (as_rules rs) t
    end_normal = normal_back (as_rules rs) back t x.rule.right (reduced.right x i) (sym v.3.back_again)

    b_is : b ≡ t
    b_is = own_form rs t b end_normal ft

    first : FirstStep rs s a
    first = first_step rs x i (λ n. variable (v.0 n)) s a v.2.there fs

    abbrev y : NamedRule
    y = first.by

    abbrev made : Tree
    made = instance first.m y.rule.right

    variant : IsVariant x.rule.left y.rule.left
    variant = reduced.left x y i first.listed ([], (x.rule.left, refl, ((λ n. instance back (first.m n)), sym (instance-instance back first.m y.rule.left) ∙ ap (instance back) first.matches ∙ v.2.back_again)))

    abbrev back_y : ℕ → Tree
    back_y n = variable (variant.0 (v.1 n))

    turned : instance back_y s ≡ y.rule.left
    turned = sym (instance-instance (λ n. variable (variant.0 n)) back s) ∙ ap (instance (λ n. variable (variant.0 n))) v.2.back_again ∙ variant.2.there

    made_normal : IsNormal (as_rules rs) made
    made_normal = normal_back (as_rules rs) back_y made y.rule.right (reduced.right y first.listed) (sym (instance-instance back_y first.m y.rule.right
        ∙ carried y.rule (reduced.are_rules y first.listed) (λ n. instance back_y (first.m n)) variable (sym (instance-instance back_y first.m y.rule.left) ∙ ap (instance back_y) first.matches ∙ turned ∙ sym (instance-variable y.rule.left))
        ∙ instance-variable y.rule.right))

    a_is : a ≡ made
    a_is = sym (run_stays (as_rules rs) first.path made a first.rest made_normal)

    -- rules of one name make one term
    one_made : x.rule ≡ y.rule → a ≡ b
    one_made e = a_is ∙ ap (λ (z : Rule). instance first.m z.right) (sym e)
        ∙ carried x.rule (reduced.are_rules x i) first.m (λ n. variable (v.0 n)) (ap (λ (z : Rule). instance first.m z.left) e ∙ first.matches ∙ sym v.2.there)
        ∙ v.3.there ∙ sym b_is

    a_normal : IsNormal (as_rules rs) a
    a_normal = subst {A = Tree} (IsNormal (as_rules rs)) (sym a_is) made_normal

    b_normal : IsNormal (as_rules rs) b
    b_normal = subst {A = Tree} (IsNormal (as_rules rs)) (sym b_is) end_normal

    never_along : ¬ IsJoinedBy eqs a b → ⊥
    never_along n = ⊎_elim (λ e. n (inl (one_made (sym (reduced.named y x first.listed i e))))) (λ e. never_match y x s a b (record {
      in_x = first.listed;
      in_y = i;
      differ = e;
      m = first.m;
      back = back_y;
      k = λ n. variable (v.0 n);
      first = first.matches;
      first_back = turned;
      second = v.2.there;
      makes_first = a_is;
      makes_second = b_is ∙ sym v.3.there;
      first_normal = a_normal;
      second_normal = b_normal;
      unjoined = n;
    })) (decide (ref_eq y.ref x.ref))

    never_back : ¬ IsJoinedBy eqs b a → ⊥
    never_back n = ⊎_elim (λ e. n (inl (sym (one_made (reduced.named x y i first.listed e))))) (λ e. never_match x y s b a (record {
      in_x = i;
      in_y = first.listed;
      differ = e;
      m = λ n. variable (v.0 n);
      back = back;
      k = first.m;
      first = v.2.there;
      first_back = v.2.back_again;
      second = first.matches;
      makes_first = b_is ∙ sym v.3.there;
      makes_second = a_is;
      first_normal = b_normal;
      second_normal = a_normal;
      unjoined = n;
    })) (decide (ref_eq x.ref y.ref))

  -- ---- the pairs of the overlaps can't all be held

  pub some_new : ⊥
  some_new = go (canonical_pair e.0 e.1) refl
    where
      o : (o : NamedOverlap) × Contains u.listed o
      o = some_member u.listed u.some

      is : IsUnjoined rs eqs o.0
      is = picks_hold (IsUnjoined rs eqs) u.overlaps u.listed u.picked o.0 o.1

      e : Tree × Tree
      e = is.0

      a : Tree
      a = is.2.0

      b : Tree
      b = is.2.1

      fa : HasForm rs e.0 a
      fa = is.2.2

      fb : HasForm rs e.1 b
      fb = is.2.3

      n : ¬ IsJoinedBy eqs a b
      n = is.2.4

      go : (c : Option Pair) → canonical_pair e.0 e.1 ≡ c → ⊥
      go None c = n (inl (one_form rs hold e.1 a b (subst {A = Tree} (λ z. HasForm rs z a) (trivial_none e.0 e.1 c) fa) fb))
      go (Some z) c =
          let d = deduced_to pairs u.listed u.proposed o.0 o.1 e is.1 z c in
          let same = canonical_is_same e.0 e.1 z c in
          ⊎_elim (λ k. equation k same)
          (λ k. ⊎_elim (λ v. never_along k.0 k.1 e.0 e.1 a b v fa fb n) (λ v. never_back k.0 k.1 e.1 e.0 b a v fb fa n) (held_rule k.0.rule e.0 e.1 z same k.2))
          (subst {A = Pair} (IsHeld rs eqs) d.2 (held d.0 d.1))
        where
          equation : Contains eqs (z.first, z.second) → IsSameEquation (e.0, e.1) (sides z) → ⊥
          equation k (inl v) = let q = reduced.equations (z.first, z.second) k in joined (normal_back (as_rules rs) (λ n. variable (v.0 n)) e.0 z.first q.0 (sym v.2.there)) (normal_back (as_rules rs) (λ n. variable (v.0 n)) e.1 z.second q.1 (sym v.3.there)) k
            where
              joined : IsNormal (as_rules rs) e.0 → IsNormal (as_rules rs) e.1 → Contains eqs (z.first, z.second) → ⊥
              joined x y k = n (inr (z, subst {A = Tree} (λ t. canonical_pair t b ≡ Some z) (sym (own_form rs e.0 a x fa)) (subst {A = Tree} (λ t. canonical_pair e.0 t ≡ Some z) (sym (own_form rs e.1 b y fb)) c), k))
          equation k (inr v) = let q = reduced.equations (z.first, z.second) k in joined (normal_back (as_rules rs) (λ n. variable (v.0 n)) e.0 z.second q.1 (sym v.2.there)) (normal_back (as_rules rs) (λ n. variable (v.0 n)) e.1 z.first q.0 (sym v.3.there)) k
            where
              joined : IsNormal (as_rules rs) e.0 → IsNormal (as_rules rs) e.1 → Contains eqs (z.first, z.second) → ⊥
              joined x y k = n (inr (z, subst {A = Tree} (λ t. canonical_pair t b ≡ Some z) (sym (own_form rs e.0 a x fa)) (subst {A = Tree} (λ t. canonical_pair e.0 t ≡ Some z) (sym (own_form rs e.1 b y fb)) c), k))
