-- What a job proposes is a function of the board from which it was taken.
use Rattle.std.proofs.Common.{ℕ, ◌≡◌, ◌⊎◌, inl, inr, refl, sym, ap, ap₂, ◌∙◌, subst, List, [], ◌∷◌, ◌++◌, map, not, ◌==◌, Contains, All, Bool, Option, Some, None, Ordering, Equal, Greater, nat_cmp}
use Rattle.std.specs.Prelude.{◌≢◌, option_map}
use Rattle.std.proofs.lemmas.List.Elements.{All-head, All-tail, All-contains, Contains-append_right}
use Rattle.kb_term.specs.Tree.{Tree, variable, trees_of, variables_of}
use Rattle.kb_term.specs.View.{tree_of}
use Rattle.kb_term.specs.Pair.{Pair, term_limit}
use Rattle.kb_term.specs.Position.{replace_at}
use Rattle.kb_term.specs.Substitution.{instance, IsVariant}
use Rattle.kb_term.specs.Rule.{Rule, rule_of}
use Rattle.kb_term.specs.First.{IsFirst}
use Rattle.kb_term.specs.Proving.{RewritesAt}
use Rattle.kb_term.specs.declared.term.Term.{Term}
use Rattle.kb_term.specs.declared.term.Term.TheVariants.{Var, App}
use Rattle.kb_term.specs.declared.origin.RuleRef.{RuleRef}
use Rattle.kb_term.specs.declared.origin.Found.{Found}
use Rattle.kb_term.specs.declared.origin.Found.TheVariants.{No, Variant, Strict}
use Rattle.std.specs.Ordering.{ordering_then}
use Rattle.kb_lemmas.proofs.Booleans.{then_equal}
use Rattle.kb_lemmas.proofs.Membership.{contains_behind, contains_first, contains_map, contains_mapped}
use Rattle.kb_lemmas.proofs.Options.{none_some, some_is}
use Rattle.kb_term.proofs.CanonicalPairs.{nat_equal}
use Rattle.kb_term.proofs.Instances.{instance-agree, agree_at}
use Rattle.kb_term.proofs.Steps.{occurs_from, occurs_to}
use Rattle.kb_overlap.specs.Trace.{side}
use Rattle.kb_cert.specs.Family.{Orders}
use Rattle.kb_cert.specs.declared.certificate.Certificate.{Certificate}
use Rattle.kb_rewrite.specs.NormalForm.{IsFound, Encompasses, HoldVariables}
use Rattle.kb_label.specs.Names.{Name}
use Rattle.kb_label.specs.declared.verdict.Reason.{Reason}
use Rattle.kb_node.specs.declared.node.NodeId.{NodeId}
use Rattle.kb_node.specs.declared.job.Job.{Job}
use Rattle.kb_node.specs.declared.job.Job.TheVariants.{Reduce, Orient, Overlap, Close}
use Rattle.kb_node.specs.declared.job.Fact.{Fact}
use Rattle.kb_node.specs.declared.job.Deduced.{Deduced}
use Rattle.kb_node.specs.declared.job.LimitCause.{LimitCause}
use Rattle.mkb_model.specs.Jobs.{numbers_cmp, process_of}
use Rattle.mkb_model.specs.Plain.{Plain, orders_of, other, pair_at, rule_at, rules_at, rules_of, constraints_of}
use Rattle.mkb_model.specs.DueJobs.{reducers, is_usable}
use Rattle.mkb_model.specs.Proposals.{Proposes, NamedRule, named_rules, as_rules, rules_on, equations_on, redex_cmp, IsFirstRedex, IsIrreducible, AreMissingFacts, unknown, NamedOverlap, both_ways, all_ways, OrientsBy, reason_of, own_limit, FirstThat, HaveForms, PassesFirst, IsFormed, IsJoined, IsUnjoined, IsStopped, IsUnjoining, IsClosed, IsOverlapStop, IsInputStop, IsDeducing, IsLargeOverlap, AllOverlaps, Picks}
use Rattle.mkb_model.specs.declared.proposed.Proposed.{Proposed}
use Rattle.mkb_model.specs.declared.proposed.Proposed.TheVariants.{Facts, Rewrite, One, Both, Refuse, Deduce, Unjoined, Closed, Limit}
use Rattle.mkb_model.proofs.Lists.{filter_in, in_filter_map}
use Rattle.mkb_model.proofs.runs.Readiness.{named_rule}
use Rattle.mkb_model.proofs.closing.Completed.{named_are}
use Rattle.mkb_model.proofs.journals.OneRun.{neither, redex_flip}
use Rattle.kb_laws.proofs.Twins.{Both as Paired, both_in}
use Rattle.mkb_model.proofs.journals.AlikeOverlaps.{both_first, both_picked, AreAlike, overlaps_both, alike_swapped, alike_limit, deduced_same, formed_alike, unjoined_alike, stopped_alike, forms_no_pass, passes_one, formed_not_stopped, joined_formed, joined_not_unjoined, stopped_one}

-- ---- terms of the program

trees_one : (ts us : List Tree) → trees_of ts ≡ trees_of us → ts ≡ us
trees_one [] [] h = refl
trees_one [] (u ∷ us) h = absurd (cc)
trees_one (t ∷ ts) [] h = absurd (cc)
trees_one (t ∷ ts) (u ∷ us) h =
    let first : t ≡ u = cc in
    let rest : trees_of ts ≡ trees_of us = cc in
    ap₂ {C = List Tree} (λ z zs. z ∷ zs) first (trees_one ts us rest)

term_one : (t u : Term) → tree_of t ≡ tree_of u → t ≡ u
term_one (Var m) (Var n) h = let e : m ≡ n = cc in ap Var e
term_one (Var m) (App g us) h = absurd (cc)
term_one (App f ts) (Var n) h = absurd (cc)
term_one (App f ts) (App g us) h =
    let e : f.0 ≡ g.0 = cc in
    let k : trees_of ts ≡ trees_of us = cc in
    ap₂ {C = Term} (λ n zs. App (record { 0 = n }) zs) e (trees_one ts us k)

-- ---- the first of a list

first_one : {A : Type 0} (P : A → Type 0) (xs : List A) (o q : Option A) → IsFirst P xs o → IsFirst P xs q → o ≡ q
first_one P xs None None h k = refl
first_one {A} P xs None (Some y) h (p, before, after, e, none) = absurd (All-contains (λ z. ¬ P z) xs y h (subst {A = List A} (λ zs. Contains zs y) (sym e) (Contains-append_right before (y ∷ after) y (contains_first y after))) p)
first_one {A} P xs (Some x) None (p, before, after, e, none) k = absurd (All-contains (λ z. ¬ P z) xs x k (subst {A = List A} (λ zs. Contains zs x) (sym e) (Contains-append_right before (x ∷ after) x (contains_first x after))) p)
first_one {A} P xs (Some x) (Some y) (p, before, after, e, none) (q, front, back, d, free) = ap Some (go before front (sym e ∙ d) none free)
  where
    go : (before front : List A) → before ++ x ∷ after ≡ front ++ y ∷ back → All (λ z. ¬ P z) before → All (λ z. ¬ P z) front → x ≡ y
    go [] [] h n f = cc
    go [] (w ∷ front) h n f = let s : w ≡ x = cc in absurd (All-head (λ z. ¬ P z) w front f (subst {A = A} P (sym s) p))
    go (v ∷ before) [] h n f = let s : v ≡ y = cc in absurd (All-head (λ z. ¬ P z) v before n (subst {A = A} P (sym s) q))
    go (v ∷ before) (w ∷ front) h n f = let s : before ++ x ∷ after ≡ front ++ y ∷ back = cc in go before front s (All-tail (λ z. ¬ P z) v before n) (All-tail (λ z. ¬ P z) w front f)

-- ---- redexes and facts

numbers_equal : (xs ys : List ℕ) → numbers_cmp xs ys ≡ Equal → xs ≡ ys
numbers_equal [] [] h = refl
numbers_equal [] (y ∷ ys) h = absurd (cc)
numbers_equal (x ∷ xs) [] h = absurd (cc)
numbers_equal (x ∷ xs) (y ∷ ys) h = let e = then_equal (nat_cmp x y) (numbers_cmp xs ys) h in ap₂ {C = List ℕ} (λ z zs. z ∷ zs) (nat_equal x y e.0) (numbers_equal xs ys e.1)

redex_equal : (v : ℕ) (at : List ℕ) (a : RuleRef) (w : ℕ) (pos : List ℕ) (c : RuleRef) → redex_cmp v at a w pos c ≡ Equal → (v ≡ w) × (at ≡ pos) × (a ≡ c)
redex_equal v at a w pos c h =
    let sides = then_equal (nat_cmp v w) (ordering_then (numbers_cmp at pos) (ordering_then (nat_cmp a.node c.node) (nat_cmp a.dir c.dir))) h in
    let places = then_equal (numbers_cmp at pos) (ordering_then (nat_cmp a.node c.node) (nat_cmp a.dir c.dir)) sides.1 in
    let refs = then_equal (nat_cmp a.node c.node) (nat_cmp a.dir c.dir) places.1 in
    (nat_equal v w sides.0, numbers_equal at pos places.0, ap₂ {C = RuleRef} (λ n d. record { node = n; dir = d }) (nat_equal a.node c.node refs.0) (nat_equal a.dir c.dir refs.1))

-- the rule of a name is one
named_alike : (b : Plain) (refs : List RuleRef) (a : RuleRef) (r s : Rule) → Contains (named_rules b refs) (record { ref = a; rule = r }) → Contains (named_rules b refs) (record { ref = a; rule = s }) → r ≡ s
named_alike b refs a r s i j =
    let x = (named_rule b refs a r i).1 in
    let y = (named_rule b refs a s j).1 in
    sym x.2 ∙ ap (λ (q : Pair). rule_of q a.dir) (some_is (sym x.1 ∙ y.1)) ∙ y.2

variant_encompasses : (t : Tree) (rule : Rule) → IsVariant t rule.left → Encompasses t rule.left
variant_encompasses t rule (r, back, h) = ([], (t, refl, ((λ x. variable (back x)), h.back_again)))

found_one : (t : Tree) (rule : Rule) (k l : Found) → IsFound t rule k → IsFound t rule l → k ≡ l
found_one t rule No No f g = refl
found_one t rule No Variant f g = absurd (f (variant_encompasses t rule g))
found_one t rule No Strict f g = absurd (f g.0)
found_one t rule Variant No f g = absurd (g (variant_encompasses t rule f))
found_one t rule Variant Variant f g = refl
found_one t rule Variant Strict f g = absurd (g.1 f)
found_one t rule Strict No f g = absurd (g f.0)
found_one t rule Strict Variant f g = absurd (f.1 g)
found_one t rule Strict Strict f g = refl

rewrites_one : (rule : Rule) (p : List ℕ) (t u v : Tree) → ((n : ℕ) → Contains (variables_of rule.right) n → Contains (variables_of rule.left) n) → RewritesAt rule p t u → RewritesAt rule p t v → u ≡ v
rewrites_one rule p t u v held (m, w) (k, z) =
    let same : instance m rule.left ≡ instance k rule.left = some_is (sym w.redex ∙ z.redex) in
    let right = instance-agree m k rule.right (λ n o. agree_at m k rule.left same n (occurs_from n rule.left (held n (occurs_to n rule.right o)))) in
    some_is (sym w.result ∙ ap (replace_at t p) right ∙ z.result)

-- the parts of a first redex
record SameRedex (w v : ℕ) (at pos : List ℕ) (a c : RuleRef) (k l : Found) (t u : Tree) : Type 0 where
  side_is : w ≡ v
  at_is : at ≡ pos
  rule_is : a ≡ c
  kind_is : k ≡ l
  result_is : t ≡ u

first_redex_one : (b : Plain) (refs : List RuleRef) (pair : Pair) (usable : ℕ → Found → Bool) (w v : ℕ) (at pos : List ℕ) (a c : RuleRef) (k l : Found) (t u : Tree) → HoldVariables (as_rules (named_rules b refs))
    → IsFirstRedex (named_rules b refs) pair usable w at a k t → IsFirstRedex (named_rules b refs) pair usable v pos c l u → SameRedex w v at pos a c k l t u
first_redex_one b refs pair usable w v at pos a c k l t u held f g = record { side_is = e.0; at_is = e.1; rule_is = e.2; kind_is = found_one (side pair w) f.is_redex.rule k l f.is_redex.found found; result_is = rewrites_one f.is_redex.rule at (side pair w) t u (held f.is_redex.rule among) f.is_redex.rewrites rewrites }
  where
    e : (w ≡ v) × (at ≡ pos) × (a ≡ c)
    e = redex_equal w at a v pos c (neither (redex_cmp w at a v pos c) (f.is_first v pos c l u g.is_redex) (subst {A = Ordering} (λ z. z ≢ Greater) (redex_flip w at a v pos c) (g.is_first w at a k t f.is_redex)))

    rule : f.is_redex.rule ≡ g.is_redex.rule
    rule = named_alike b refs a f.is_redex.rule g.is_redex.rule f.is_redex.listed (subst {A = RuleRef} (λ z. Contains (named_rules b refs) (record { ref = z; rule = g.is_redex.rule })) (sym e.2) g.is_redex.listed)

    found : IsFound (side pair w) f.is_redex.rule l
    found = subst {A = Rule} (λ z. IsFound (side pair w) z l) (sym rule) (subst {A = ℕ} (λ z. IsFound (side pair z) g.is_redex.rule l) (sym e.0) g.is_redex.found)

    rewrites : RewritesAt f.is_redex.rule at (side pair w) u
    rewrites = subst {A = Rule} (λ z. RewritesAt z at (side pair w) u) (sym rule) (subst {A = List ℕ} (λ z. RewritesAt g.is_redex.rule z (side pair w) u) (sym e.1) (subst {A = ℕ} (λ z. RewritesAt g.is_redex.rule pos (side pair z) u) (sym e.0) g.is_redex.rewrites))

    among : Contains (as_rules (named_rules b refs)) f.is_redex.rule
    among = contains_map (λ (r : NamedRule). r.rule) (named_rules b refs) (record { ref = a; rule = f.is_redex.rule }) f.is_redex.listed

lists_one : {A K : Type 0} (key : A → K) (xs ys : List A) → map key xs ≡ map key ys → ((x y : A) → Contains xs x → Contains ys y → key x ≡ key y → x ≡ y) → xs ≡ ys
lists_one key [] [] h same = refl
lists_one key [] (y ∷ ys) h same = absurd (cc)
lists_one key (x ∷ xs) [] h same = absurd (cc)
lists_one {A} key (x ∷ xs) (y ∷ ys) h same =
    let first : key x ≡ key y = cc in
    let rest : map key xs ≡ map key ys = cc in
    ap₂ {C = List A} (λ z zs. z ∷ zs) (same x y (contains_first x xs) (contains_first y ys) first) (lists_one key xs ys rest (λ v w i j. same v w (contains_behind x xs v i) (contains_behind y ys w j)))

fact_is : (f g : Fact) → f.node.0 ≡ g.node.0 → f.side ≡ g.side → f.rule ≡ g.rule → f.found ≡ g.found → f ≡ g
fact_is f g n s r k =
    ap {B = Fact} (λ z. record { node = record { 0 = z }; side = f.side; rule = f.rule; found = f.found }) n
    ∙ ap {B = Fact} (λ z. record { node = g.node; side = z; rule = f.rule; found = f.found }) s
    ∙ ap {B = Fact} (λ (z : RuleRef). record { node = g.node; side = g.side; rule = z; found = f.found }) r
    ∙ ap {B = Fact} (λ (z : Found). record { node = g.node; side = g.side; rule = g.rule; found = z }) k

facts_one : (b : Plain) (refs : List RuleRef) (pair : Pair) (usable : ℕ → Found → Bool) (n : ℕ) (open_ones : List (ℕ × RuleRef)) (fs gs : List Fact)
    → AreMissingFacts (named_rules b refs) pair usable n open_ones fs → AreMissingFacts (named_rules b refs) pair usable n open_ones gs → fs ≡ gs
facts_one b refs pair usable n open_ones fs gs h k = lists_one (λ (f : Fact). (f.side, f.rule)) fs gs (h.are_unknown ∙ sym k.are_unknown) one
  where
    one : (f g : Fact) → Contains fs f → Contains gs g → ◌≡◌ {A = ℕ × RuleRef} (f.side, f.rule) (g.side, g.rule) → f ≡ g
    one f g i j e =
        let s : f.side ≡ g.side = ap (λ (z : ℕ × RuleRef). z.0) e in
        let r : f.rule ≡ g.rule = ap (λ (z : ℕ × RuleRef). z.1) e in
        let x = h.are_true f i in
        let y = k.are_true g j in
        let same : x.0 ≡ y.0 = named_alike b refs f.rule x.0 y.0 x.1 (subst {A = RuleRef} (λ z. Contains (named_rules b refs) (record { ref = z; rule = y.0 })) (sym r) y.1) in
        fact_is f g (h.at_node f i ∙ sym (k.at_node g j)) s r
        (found_one (side pair f.side) x.0 f.found g.found x.2 (subst {A = Rule} (λ z. IsFound (side pair f.side) z g.found) (sym same) (subst {A = ℕ} (λ z. IsFound (side pair z) y.0 g.found) (sym s) y.2)))

-- ---- proposals from equal parts

rewrite_is : (m n : NodeId) (w v : ℕ) (at pos : List ℕ) (a c : RuleRef) (k l : Found) (t u : Term) → m ≡ n → SameRedex w v at pos a c k l (tree_of t) (tree_of u) → Rewrite m w at a k t ≡ Rewrite n v pos c l u
rewrite_is m n w v at pos a c k l t u e s =
    ap (λ (z : NodeId). Rewrite z w at a k t) e
    ∙ ap (λ z. Rewrite n z at a k t) s.side_is
    ∙ ap (λ z. Rewrite n v z a k t) s.at_is
    ∙ ap (λ (z : RuleRef). Rewrite n v pos z k t) s.rule_is
    ∙ ap (λ (z : Found). Rewrite n v pos c z t) s.kind_is
    ∙ ap (λ (z : Term). Rewrite n v pos c l z) (term_one t u s.result_is)

limit_is : (i j k : Job) (c d : LimitCause) → i ≡ k → j ≡ k → c.redex ≡ d.redex → c.reason ≡ d.reason → Limit i c ≡ Limit j d
limit_is i j k c d e f r s =
    ap (λ (z : Job). Limit z c) (e ∙ sym f) ∙ ap (λ (z : LimitCause). Limit j z)
    (ap {B = LimitCause} (λ (z : Option (ℕ × RuleRef × Found)). record { redex = z; reason = c.reason }) r ∙ ap {B = LimitCause} (λ (z : Reason). record { redex = d.redex; reason = z }) s)

one_node : (b : Plain) (n : ℕ) (x y : Pair) → pair_at b n ≡ Some x → pair_at b n ≡ Some y → y ≡ x
one_node b n x y h k = some_is (sym k ∙ h)

module _ (b : Plain) (p : Name) (holds : HoldVariables (rules_at b (rules_of b p))) where
  reducers_hold : (n : ℕ) → HoldVariables (as_rules (named_rules b (reducers b p n)))
  reducers_hold n rule i =
      let m = contains_mapped (λ (r : NamedRule). r.rule) (named_rules b (reducers b p n)) rule i in
      let k = named_rule b (reducers b p n) m.0.ref m.0.rule m.1 in
      let there : rule_at b m.0.ref ≡ Some m.0.rule = ap (option_map (λ q. rule_of q m.0.ref.dir)) k.1.1 ∙ ap Some k.1.2 in
      holds rule (in_filter_map (rule_at b) (rules_of b p) m.0.ref rule (filter_in (λ (c : RuleRef). not (c.node == n)) (rules_of b p) m.0.ref k.0).0 (there ∙ ap Some m.2))

  own_hold : HoldVariables (as_rules (rules_on b p))
  own_hold = subst {A = List Rule} HoldVariables (sym (named_are (rule_at b) (rules_of b p))) holds

  module _ (n : NodeId) where
    abbrev Redexes : ℕ → List ℕ → RuleRef → Found → Tree → Pair → Type 0
    Redexes w at a k t pair = IsFirstRedex (named_rules b (reducers b p n.0)) pair (is_usable b p n.0) w at a k t

    one_redex : (w v : ℕ) (at pos : List ℕ) (a c : RuleRef) (k l : Found) (t u : Tree) (x y : Pair) → pair_at b n.0 ≡ Some x → pair_at b n.0 ≡ Some y → Redexes w at a k t x → Redexes v pos c l u y → SameRedex w v at pos a c k l t u
    one_redex w v at pos a c k l t u x y h j f g = first_redex_one b (reducers b p n.0) x (is_usable b p n.0) w v at pos a c k l t u (reducers_hold n.0) f (subst {A = Pair} (Redexes v pos c l u) (one_node b n.0 x y h j) g)

    no_redex : (w : ℕ) (at : List ℕ) (a : RuleRef) (k : Found) (t : Tree) (x y : Pair) → pair_at b n.0 ≡ Some x → pair_at b n.0 ≡ Some y → IsIrreducible (named_rules b (reducers b p n.0)) x (is_usable b p n.0) → ¬ Redexes w at a k t y
    no_redex w at a k t x y h j irreducible f = irreducible w at a k t (subst {A = Pair} (Redexes w at a k t) (one_node b n.0 x y h j) f).is_redex

    reduce_one : (x y : Proposed) → Proposes b (Reduce p n) x → Proposes b (Reduce p n) y → x ≡ y
    reduce_one (Facts fs) (Facts gs) (q, h, f) (r, k, g) = ap Facts (facts_one b (reducers b p n.0) q (is_usable b p n.0) n.0 (unknown b p n.0) fs gs f (subst {A = Pair} (λ z. AreMissingFacts (named_rules b (reducers b p n.0)) z (is_usable b p n.0) n.0 (unknown b p n.0) gs) (one_node b n.0 q r h k) g))
    reduce_one (Facts fs) (Rewrite m w at a k t) (q, h, f) (e, (r, j, g)) = absurd (no_redex w at a k (tree_of t) q r h j f.none_usable g.first)
    reduce_one (Facts fs) (Limit i c) (q, h, f) (e, (r, j, g)) = absurd (no_redex g.side g.at g.rule g.kind g.result q r h j f.none_usable g.first)
    reduce_one (Rewrite m w at a k t) (Facts gs) (e, (q, h, f)) (r, j, g) = absurd (no_redex w at a k (tree_of t) r q j h g.none_usable f.first)
    reduce_one (Rewrite m w at a k t) (Rewrite o v pos c l u) (e, (q, h, f)) (d, (r, j, g)) =
        rewrite_is m o w v at pos a c k l t u (e ∙ sym d) (one_redex w v at pos a c k l (tree_of t) (tree_of u) q r h j f.first g.first)
    reduce_one (Rewrite m w at a k t) (Limit i c) (e, (q, h, f)) (d, (r, j, g)) =
        let s = one_redex w g.side at g.at a g.rule k g.kind (tree_of t) g.result q r h j f.first g.first in
        none_some (sym f.fits ∙ ap term_limit s.result_is ∙ g.passes)
    reduce_one (Limit i c) (Facts gs) (e, (q, h, f)) (r, j, g) = absurd (no_redex f.side f.at f.rule f.kind f.result r q j h g.none_usable f.first)
    reduce_one (Limit i c) (Rewrite m w at a k t) (e, (q, h, f)) (d, (r, j, g)) =
        let s = one_redex f.side w f.at at f.rule a f.kind k f.result (tree_of t) q r h j f.first g.first in
        none_some (sym g.fits ∙ ap term_limit (sym s.result_is) ∙ f.passes)
    reduce_one (Limit i c) (Limit l d) (e, (q, h, f)) (o, (r, j, g)) =
        let s = one_redex f.side g.side f.at g.at f.rule g.rule f.kind g.kind f.result g.result q r h j f.first g.first in
        limit_is i l (Reduce p n) c d e o
        (f.redex_is ∙ ap (λ z. Some (z, f.rule, f.kind)) s.side_is ∙ ap (λ (z : RuleRef). Some (g.side, z, f.kind)) s.rule_is ∙ ap (λ (z : Found). Some (g.side, g.rule, z)) s.kind_is ∙ sym g.redex_is)
        (f.reason_is ∙ ap reason_of (some_is (sym f.passes ∙ ap term_limit s.result_is ∙ g.passes)) ∙ sym g.reason_is)
    reduce_one (One q m d c) y h k = absurd h
    reduce_one (Both q m c d) y h k = absurd h
    reduce_one (Refuse q m) y h k = absurd h
    reduce_one (Deduce a c ds) y h k = absurd h
    reduce_one (Unjoined q ds) y h k = absurd h
    reduce_one (Closed q) y h k = absurd h
    reduce_one (Facts fs) (One q m d c) h k = absurd k
    reduce_one (Facts fs) (Both q m c d) h k = absurd k
    reduce_one (Facts fs) (Refuse q m) h k = absurd k
    reduce_one (Facts fs) (Deduce a c ds) h k = absurd k
    reduce_one (Facts fs) (Unjoined q ds) h k = absurd k
    reduce_one (Facts fs) (Closed q) h k = absurd k
    reduce_one (Rewrite o w at r l t) (One q m d c) h k = absurd k
    reduce_one (Rewrite o w at r l t) (Both q m c d) h k = absurd k
    reduce_one (Rewrite o w at r l t) (Refuse q m) h k = absurd k
    reduce_one (Rewrite o w at r l t) (Deduce a c ds) h k = absurd k
    reduce_one (Rewrite o w at r l t) (Unjoined q ds) h k = absurd k
    reduce_one (Rewrite o w at r l t) (Closed q) h k = absurd k
    reduce_one (Limit i e) (One q m d c) h k = absurd k
    reduce_one (Limit i e) (Both q m c d) h k = absurd k
    reduce_one (Limit i e) (Refuse q m) h k = absurd k
    reduce_one (Limit i e) (Deduce a c ds) h k = absurd k
    reduce_one (Limit i e) (Unjoined q ds) h k = absurd k
    reduce_one (Limit i e) (Closed q) h k = absurd k

    -- ---- orienting

    one_order : (d : ℕ) (o q : Option Certificate) → OrientsBy b p n.0 d o → OrientsBy b p n.0 d q → o ≡ q
    one_order d o q h k = first_one (λ c. Orders c (rules_at b (constraints_of b p ++ record { node = n.0; dir = d } ∷ []))) (orders_of b) o q h k

    both_orders : (d : ℕ) (c : Certificate) → (d ≡ 0) ⊎ (d ≡ 1) → OrientsBy b p n.0 (other d) None → (c0 c1 : Certificate) → OrientsBy b p n.0 0 (Some c0) → OrientsBy b p n.0 1 (Some c1) → ⊥
    both_orders d c (inl e) h c0 c1 k l = none_some (one_order 1 None (Some c1) (subst {A = ℕ} (λ z. OrientsBy b p n.0 (other z) None) e h) l)
    both_orders d c (inr e) h c0 c1 k l = none_some (one_order 0 None (Some c0) (subst {A = ℕ} (λ z. OrientsBy b p n.0 (other z) None) e h) k)

    no_orders : (d : ℕ) (c : Certificate) → (d ≡ 0) ⊎ (d ≡ 1) → OrientsBy b p n.0 d (Some c) → OrientsBy b p n.0 0 None → OrientsBy b p n.0 1 None → ⊥
    no_orders d c (inl e) h k l = none_some (one_order 0 None (Some c) k (subst {A = ℕ} (λ z. OrientsBy b p n.0 z (Some c)) e h))
    no_orders d c (inr e) h k l = none_some (one_order 1 None (Some c) l (subst {A = ℕ} (λ z. OrientsBy b p n.0 z (Some c)) e h))

    one_direction : (d e : ℕ) (c f : Certificate) → (d ≡ 0) ⊎ (d ≡ 1) → (e ≡ 0) ⊎ (e ≡ 1) → OrientsBy b p n.0 d (Some c) → OrientsBy b p n.0 (other e) None → d ≡ e
    one_direction d e c f (inl h) (inl k) x y = h ∙ sym k
    one_direction d e c f (inl h) (inr k) x y = none_some (one_order 0 None (Some c) (subst {A = ℕ} (λ z. OrientsBy b p n.0 (other z) None) k y) (subst {A = ℕ} (λ z. OrientsBy b p n.0 z (Some c)) h x))
    one_direction d e c f (inr h) (inl k) x y = none_some (one_order 1 None (Some c) (subst {A = ℕ} (λ z. OrientsBy b p n.0 (other z) None) k y) (subst {A = ℕ} (λ z. OrientsBy b p n.0 z (Some c)) h x))
    one_direction d e c f (inr h) (inr k) x y = h ∙ sym k

    orient_one : (x y : Proposed) → Proposes b (Orient p n) x → Proposes b (Orient p n) y → x ≡ y
    orient_one (One q m d c) (One r o e f) h k =
        let s = one_direction d e c f h.2 k.2 h.3 k.4 in
        ap (λ (z : Name). One z m d c) (h.0 ∙ sym k.0) ∙ ap (λ (z : NodeId). One r z d c) (h.1 ∙ sym k.1) ∙ ap (λ z. One r o z c) s
        ∙ ap (λ (z : Certificate). One r o e z) (some_is (one_order e (Some c) (Some f) (subst {A = ℕ} (λ z. OrientsBy b p n.0 z (Some c)) s h.3) k.3))
    orient_one (One q m d c) (Both r o f g) h k = absurd (both_orders d c h.2 h.4 f g k.2 k.3)
    orient_one (One q m d c) (Refuse r o) h k = absurd (no_orders d c h.2 h.3 k.2 k.3)
    orient_one (Both q m c d) (One r o e f) h k = absurd (both_orders e f k.2 k.4 c d h.2 h.3)
    orient_one (Both q m c d) (Both r o f g) h k =
        ap (λ (z : Name). Both z m c d) (h.0 ∙ sym k.0) ∙ ap (λ (z : NodeId). Both r z c d) (h.1 ∙ sym k.1)
        ∙ ap (λ (z : Certificate). Both r o z d) (some_is (one_order 0 (Some c) (Some f) h.2 k.2)) ∙ ap (λ (z : Certificate). Both r o f z) (some_is (one_order 1 (Some d) (Some g) h.3 k.3))
    orient_one (Both q m c d) (Refuse r o) h k = none_some (one_order 0 None (Some c) k.2 h.2)
    orient_one (Refuse q m) (One r o e f) h k = absurd (no_orders e f k.2 k.3 h.2 h.3)
    orient_one (Refuse q m) (Both r o f g) h k = none_some (one_order 0 None (Some f) h.2 k.2)
    orient_one (Refuse q m) (Refuse r o) h k = ap (λ (z : Name). Refuse z m) (h.0 ∙ sym k.0) ∙ ap (λ (z : NodeId). Refuse r z) (h.1 ∙ sym k.1)
    orient_one (Facts fs) y h k = absurd h
    orient_one (Rewrite m w at a l t) y h k = absurd h
    orient_one (Deduce a c ds) y h k = absurd h
    orient_one (Unjoined q ds) y h k = absurd h
    orient_one (Closed q) y h k = absurd h
    orient_one (Limit i c) y h k = absurd h
    orient_one (One q m d c) (Facts fs) h k = absurd k
    orient_one (One q m d c) (Rewrite o w at a l t) h k = absurd k
    orient_one (One q m d c) (Deduce a e ds) h k = absurd k
    orient_one (One q m d c) (Unjoined r ds) h k = absurd k
    orient_one (One q m d c) (Closed r) h k = absurd k
    orient_one (One q m d c) (Limit i e) h k = absurd k
    orient_one (Both q m d c) (Facts fs) h k = absurd k
    orient_one (Both q m d c) (Rewrite o w at a l t) h k = absurd k
    orient_one (Both q m d c) (Deduce a e ds) h k = absurd k
    orient_one (Both q m d c) (Unjoined r ds) h k = absurd k
    orient_one (Both q m d c) (Closed r) h k = absurd k
    orient_one (Both q m d c) (Limit i e) h k = absurd k
    orient_one (Refuse q m) (Facts fs) h k = absurd k
    orient_one (Refuse q m) (Rewrite o w at a l t) h k = absurd k
    orient_one (Refuse q m) (Deduce a e ds) h k = absurd k
    orient_one (Refuse q m) (Unjoined r ds) h k = absurd k
    orient_one (Refuse q m) (Closed r) h k = absurd k
    orient_one (Refuse q m) (Limit i e) h k = absurd k

  -- ---- overlapping

  one_rule : (a : RuleRef) (r s : Rule) → rule_at b a ≡ Some r → rule_at b a ≡ Some s → s ≡ r
  one_rule a r s h k = some_is (sym k ∙ h)

  deduce_limit : (a c d e : RuleRef) (ds : List Deduced) (j : Job) (cause : LimitCause) → Proposes b (Overlap p a c) (Deduce d e ds) → Proposes b (Overlap p a c) (Limit j cause) → ⊥
  deduce_limit a c d e ds j cause (h, i, (r, s, m, n, one)) (k, (l, (t, u, o, q, two))) =
      let same : IsLargeOverlap (record { ref = a; rule = r }) (record { ref = c; rule = s }) cause.reason =
      subst {A = Rule} (λ z. IsLargeOverlap (record { ref = a; rule = z }) (record { ref = c; rule = s }) cause.reason) (one_rule a r t m o) (subst {A = Rule} (λ z. IsLargeOverlap (record { ref = a; rule = t }) (record { ref = c; rule = z }) cause.reason) (one_rule c s u n q) two) in
      within_large (record { ref = a; rule = r }) (record { ref = c; rule = s }) ds cause.reason one same
    where
      within_large : (x y : NamedRule) (ds : List Deduced) (r : Reason) → IsDeducing x y ds → IsLargeOverlap x y r → ⊥
      within_large x y ds r f g =
          let m = g.first in
          let i = both_in AreAlike g.overlaps f.overlaps (overlaps_both (both_ways x y) g.overlaps f.overlaps g.all f.all) m.1 (subst {A = List NamedOverlap} (λ z. Contains z m.1) (sym m.3) (Contains-append_right m.0 (m.1 ∷ m.2) m.1 (contains_first m.1 m.2))) in
          none_some (sym (f.within i.0 i.1) ∙ sym (alike_limit m.1 i.0 i.2) ∙ m.5)

  overlap_one : (a c : RuleRef) (x y : Proposed) → Proposes b (Overlap p a c) x → Proposes b (Overlap p a c) y → x ≡ y
  overlap_one a c (Deduce d e ds) (Deduce f g es) (h, i, (r, s, m, n, one)) (k, l, (t, u, o, q, two)) =
      let same : IsDeducing (record { ref = a; rule = r }) (record { ref = c; rule = s }) es =
      subst {A = Rule} (λ z. IsDeducing (record { ref = a; rule = z }) (record { ref = c; rule = s }) es) (one_rule a r t m o) (subst {A = Rule} (λ z. IsDeducing (record { ref = a; rule = t }) (record { ref = c; rule = z }) es) (one_rule c s u n q) two) in
      ap (λ (z : RuleRef). Deduce z e ds) (h ∙ sym k) ∙ ap (λ (z : RuleRef). Deduce f z ds) (i ∙ sym l)
      ∙ ap (λ (z : List Deduced). Deduce f g z) (deduced_same ds es one.overlaps same.overlaps (overlaps_both (both_ways (record { ref = a; rule = r }) (record { ref = c; rule = s })) one.overlaps same.overlaps one.all same.all) one.proposed same.proposed)
  overlap_one a c (Deduce d e ds) (Limit j cause) h k = absurd (deduce_limit a c d e ds j cause h k)
  overlap_one a c (Limit j cause) (Deduce d e ds) h k = absurd (deduce_limit a c d e ds j cause k h)
  overlap_one a c (Limit j cause) (Limit i d) (h, (e, (r, s, m, n, one))) (k, (f, (t, u, o, q, two))) =
      let same : IsLargeOverlap (record { ref = a; rule = r }) (record { ref = c; rule = s }) d.reason =
      subst {A = Rule} (λ z. IsLargeOverlap (record { ref = a; rule = z }) (record { ref = c; rule = s }) d.reason) (one_rule a r t m o) (subst {A = Rule} (λ z. IsLargeOverlap (record { ref = a; rule = t }) (record { ref = c; rule = z }) d.reason) (one_rule c s u n q) two) in
      let both = both_first AreAlike (λ (o : NamedOverlap). own_limit o.overlap.sides ≡ None) (λ (o : NamedOverlap). own_limit o.overlap.sides ≡ Some cause.reason) (λ (o : NamedOverlap). own_limit o.overlap.sides ≡ Some d.reason)
      (λ x y l v w. none_some (sym w ∙ sym (alike_limit x y l) ∙ v)) (λ x y l v w. none_some (sym v ∙ alike_limit x y l ∙ w))
      one.overlaps same.overlaps (overlaps_both (both_ways (record { ref = a; rule = r }) (record { ref = c; rule = s })) one.overlaps same.overlaps one.all same.all) one.first same.first in
      limit_is j i (Overlap p a c) cause d h k (e ∙ sym f) (some_is (sym both.3 ∙ alike_limit both.0 both.1 both.2 ∙ both.4))
  overlap_one a c (Facts fs) y h k = absurd h
  overlap_one a c (Rewrite m w at r l t) y h k = absurd h
  overlap_one a c (One q m d f) y h k = absurd h
  overlap_one a c (Both q m d f) y h k = absurd h
  overlap_one a c (Refuse q m) y h k = absurd h
  overlap_one a c (Unjoined q ds) y h k = absurd h
  overlap_one a c (Closed q) y h k = absurd h
  overlap_one a c (Deduce d e ds) (Facts fs) h k = absurd k
  overlap_one a c (Deduce d e ds) (Rewrite m w at r l t) h k = absurd k
  overlap_one a c (Deduce d e ds) (One q m i f) h k = absurd k
  overlap_one a c (Deduce d e ds) (Both q m i f) h k = absurd k
  overlap_one a c (Deduce d e ds) (Refuse q m) h k = absurd k
  overlap_one a c (Deduce d e ds) (Unjoined q es) h k = absurd k
  overlap_one a c (Deduce d e ds) (Closed q) h k = absurd k
  overlap_one a c (Limit j e) (Facts fs) h k = absurd k
  overlap_one a c (Limit j e) (Rewrite m w at r l t) h k = absurd k
  overlap_one a c (Limit j e) (One q m i f) h k = absurd k
  overlap_one a c (Limit j e) (Both q m i f) h k = absurd k
  overlap_one a c (Limit j e) (Refuse q m) h k = absurd k
  overlap_one a c (Limit j e) (Unjoined q es) h k = absurd k
  overlap_one a c (Limit j e) (Closed q) h k = absurd k

  -- ---- closing

  abbrev Rules : List NamedRule
  Rules = rules_on b p

  abbrev Equations : List (Tree × Tree)
  Equations = equations_on b p

  all_alike : (os qs : List NamedOverlap) → AllOverlaps Rules os → AllOverlaps Rules qs → Paired AreAlike os qs
  all_alike os qs h k = overlaps_both (all_ways Rules) os qs h k

  first_in : {A : Type 0} (Clear Meets : A → Type 0) (xs : List A) → FirstThat Clear Meets xs → (x : A) × Contains xs x × Meets x
  first_in {A} Clear Meets xs (before, x, after, e, clear, meets) = (x, subst {A = List A} (λ z. Contains z x) (sym e) (Contains-append_right before (x ∷ after) x (contains_first x after)), meets)

  -- where all overlaps of one list have forms, none of another is stopped
  formed_stops : (os qs : List NamedOverlap) → AllOverlaps Rules os → AllOverlaps Rules qs → ((o : NamedOverlap) → Contains os o → IsFormed Rules o) → (r : Reason) → FirstThat (IsFormed Rules) (IsStopped Rules r) qs → ⊥
  formed_stops os qs h k formed r f =
      let x = first_in (IsFormed Rules) (IsStopped Rules r) qs f in
      let y = both_in AreAlike qs os (all_alike qs os k h) x.0 x.1 in
      formed_not_stopped Rules own_hold y.0 r (formed y.0 y.1) (stopped_alike Rules own_hold r x.0 y.0 y.2 x.2)

  picked_one : (os ys : List NamedOverlap) → Picks (IsUnjoined Rules Equations) os ys → ys ≢ [] → (o : NamedOverlap) × Contains os o × IsUnjoined Rules Equations o
  picked_one [] ys h some = absurd (some h)
  picked_one (x ∷ os) ys (inl h) some = let r = picked_one os ys h.1 some in (r.0, contains_behind x os r.0 r.1, r.2)
  picked_one (x ∷ os) ys (inr h) some = (x, contains_first x os, h.0)

  joined_unjoined : (os : List NamedOverlap) → AllOverlaps Rules os → ((o : NamedOverlap) → Contains os o → IsJoined Rules Equations o) → (ds : List Deduced) → IsUnjoining Rules Equations ds → ⊥
  joined_unjoined os h joined ds u =
      let x = picked_one u.overlaps u.listed u.picked u.some in
      let y = both_in AreAlike u.overlaps os (all_alike u.overlaps os u.all h) x.0 x.1 in
      joined_not_unjoined Rules own_hold Equations y.0 (joined y.0 y.1) (unjoined_alike Rules own_hold Equations x.0 y.0 y.2 x.2)

  inputs_pass : (inputs : List (Tree × Tree)) → ((e : Tree × Tree) → Contains inputs e → HaveForms Rules e) → (r : Reason) → FirstThat (HaveForms Rules) (λ e. PassesFirst Rules e r) inputs → ⊥
  inputs_pass inputs formed r f = let x = first_in (HaveForms Rules) (λ e. PassesFirst Rules e r) inputs f in forms_no_pass Rules own_hold x.0 r (formed x.0 x.1) x.2

  one_stop : (os qs : List NamedOverlap) → AllOverlaps Rules os → AllOverlaps Rules qs → (r s : Reason) → FirstThat (IsFormed Rules) (IsStopped Rules r) os → FirstThat (IsFormed Rules) (IsStopped Rules s) qs → r ≡ s
  one_stop os qs h k r s f g =
      let both = both_first AreAlike (IsFormed Rules) (IsStopped Rules r) (IsStopped Rules s)
      (λ x y l v w. formed_not_stopped Rules own_hold x r (formed_alike Rules own_hold y x (alike_swapped x y l) w) v)
      (λ x y l v w. formed_not_stopped Rules own_hold y s (formed_alike Rules own_hold x y l v) w)
      os qs (all_alike os qs h k) f g in
      stopped_one Rules own_hold both.1 r s (stopped_alike Rules own_hold r both.0 both.1 both.2 both.3) both.4

  same_both : {A : Type 0} (xs : List A) → Paired (λ (x y : A). x ≡ y) xs xs
  same_both [] = tt
  same_both (x ∷ xs) = (refl, same_both xs)

  one_input : (inputs : List (Tree × Tree)) (r s : Reason) → FirstThat (HaveForms Rules) (λ e. PassesFirst Rules e r) inputs → FirstThat (HaveForms Rules) (λ e. PassesFirst Rules e s) inputs → r ≡ s
  one_input inputs r s f g =
      let both = both_first (λ (x y : Tree × Tree). x ≡ y) (HaveForms Rules) (λ e. PassesFirst Rules e r) (λ e. PassesFirst Rules e s)
      (λ x y l v w. forms_no_pass Rules own_hold x r (subst {A = Tree × Tree} (HaveForms Rules) (sym l) w) v)
      (λ x y l v w. forms_no_pass Rules own_hold y s (subst {A = Tree × Tree} (HaveForms Rules) l v) w)
      inputs inputs (same_both inputs) f g in
      passes_one Rules own_hold both.1 r s (subst {A = Tree × Tree} (λ z. PassesFirst Rules z r) both.2 both.3) both.4

  one_limit : (r s : Reason) → IsOverlapStop Rules r ⊎ IsInputStop Rules Equations b.problem.equations r → IsOverlapStop Rules s ⊎ IsInputStop Rules Equations b.problem.equations s → r ≡ s
  one_limit r s (inl f) (inl g) = one_stop f.overlaps g.overlaps f.all g.all r s f.first g.first
  one_limit r s (inl f) (inr g) = absurd (formed_stops g.overlaps f.overlaps g.all f.all (λ o i. joined_formed Rules own_hold Equations o (g.joined o i)) r f.first)
  one_limit r s (inr f) (inl g) = absurd (formed_stops f.overlaps g.overlaps f.all g.all (λ o i. joined_formed Rules own_hold Equations o (f.joined o i)) s g.first)
  one_limit r s (inr f) (inr g) = one_input b.problem.equations r s f.first g.first

  unjoined_limit : (ds : List Deduced) (r : Reason) → IsUnjoining Rules Equations ds → IsOverlapStop Rules r ⊎ IsInputStop Rules Equations b.problem.equations r → ⊥
  unjoined_limit ds r u (inl f) = formed_stops u.overlaps f.overlaps u.all f.all u.formed r f.first
  unjoined_limit ds r u (inr f) = joined_unjoined f.overlaps f.all f.joined ds u

  closed_limit : (r : Reason) → IsClosed Rules Equations b.problem.equations → IsOverlapStop Rules r ⊎ IsInputStop Rules Equations b.problem.equations r → ⊥
  closed_limit r c (inl f) = formed_stops c.overlaps f.overlaps c.all f.all (λ o i. joined_formed Rules own_hold Equations o (c.joined o i)) r f.first
  closed_limit r c (inr f) = inputs_pass b.problem.equations (c.formed f.no_equation) r f.first

  close_one : (x y : Proposed) → Proposes b (Close p) x → Proposes b (Close p) y → x ≡ y
  close_one (Unjoined q ds) (Unjoined r es) h k =
      let u = h.1 in
      let v = k.1 in
      let picked = both_picked AreAlike (IsUnjoined Rules Equations) (λ x y l. unjoined_alike Rules own_hold Equations x y l) (λ x y l. unjoined_alike Rules own_hold Equations y x (alike_swapped x y l)) u.overlaps v.overlaps u.listed v.listed (all_alike u.overlaps v.overlaps u.all v.all) u.picked v.picked in
      ap (λ (z : Name). Unjoined z ds) (h.0 ∙ sym k.0) ∙ ap (λ (z : List Deduced). Unjoined r z) (deduced_same ds es u.listed v.listed picked u.proposed v.proposed)
  close_one (Unjoined q ds) (Closed r) h k = absurd (joined_unjoined k.1.overlaps k.1.all k.1.joined ds h.1)
  close_one (Unjoined q ds) (Limit j c) h k = absurd (unjoined_limit ds c.reason h.1 k.1.1)
  close_one (Closed q) (Unjoined r es) h k = absurd (joined_unjoined h.1.overlaps h.1.all h.1.joined es k.1)
  close_one (Closed q) (Closed r) h k = ap (λ (z : Name). Closed z) (h.0 ∙ sym k.0)
  close_one (Closed q) (Limit j c) h k = absurd (closed_limit c.reason h.1 k.1.1)
  close_one (Limit i c) (Unjoined r es) h k = absurd (unjoined_limit es c.reason k.1 h.1.1)
  close_one (Limit i c) (Closed r) h k = absurd (closed_limit c.reason k.1 h.1.1)
  close_one (Limit i c) (Limit j d) h k = limit_is i j (Close p) c d h.0 k.0 (h.1.0 ∙ sym k.1.0) (one_limit c.reason d.reason h.1.1 k.1.1)
  close_one (Facts fs) y h k = absurd h
  close_one (Rewrite m w at a l t) y h k = absurd h
  close_one (One q m d c) y h k = absurd h
  close_one (Both q m c d) y h k = absurd h
  close_one (Refuse q m) y h k = absurd h
  close_one (Deduce a c ds) y h k = absurd h
  close_one (Unjoined q ds) (Facts fs) h k = absurd k
  close_one (Unjoined q ds) (Rewrite m w at a l t) h k = absurd k
  close_one (Unjoined q ds) (One r m d c) h k = absurd k
  close_one (Unjoined q ds) (Both r m c d) h k = absurd k
  close_one (Unjoined q ds) (Refuse r m) h k = absurd k
  close_one (Unjoined q ds) (Deduce a c es) h k = absurd k
  close_one (Closed q) (Facts fs) h k = absurd k
  close_one (Closed q) (Rewrite m w at a l t) h k = absurd k
  close_one (Closed q) (One r m d c) h k = absurd k
  close_one (Closed q) (Both r m c d) h k = absurd k
  close_one (Closed q) (Refuse r m) h k = absurd k
  close_one (Closed q) (Deduce a c es) h k = absurd k
  close_one (Limit i e) (Facts fs) h k = absurd k
  close_one (Limit i e) (Rewrite m w at a l t) h k = absurd k
  close_one (Limit i e) (One r m d c) h k = absurd k
  close_one (Limit i e) (Both r m c d) h k = absurd k
  close_one (Limit i e) (Refuse r m) h k = absurd k
  close_one (Limit i e) (Deduce a c es) h k = absurd k

-- what a job proposes on a board is one, where the rules of its process hold their variables
pub one_proposal : (b : Plain) (j : Job) (x y : Proposed) → HoldVariables (rules_at b (rules_of b (process_of j))) → Proposes b j x → Proposes b j y → x ≡ y
one_proposal b (Reduce p n) x y holds h k = reduce_one b p holds n x y h k
one_proposal b (Orient p n) x y holds h k = orient_one b p holds n x y h k
one_proposal b (Overlap p a c) x y holds h k = overlap_one b p holds a c x y h k
one_proposal b (Close p) x y holds h k = close_one b p holds x y h k
