-- The first redex that a search finds is the first that may be rewritten.
use Rattle.std.proofs.Common.{ℕ, zero, suc, ◌<◌, ◌≤◌, ◌≡◌, ◌≢◌, ◌⊎◌, inl, inr, refl, sym, ap, ◌∙◌, subst, arith, List, [], ◌∷◌, ◌++◌, map, take, get_or, length, Contains, All, Bool, true, false, not, Option, Some, None, Ordering, Less, Equal, Greater, nat_cmp, ⊎_elim}
use Rattle.std.specs.Prelude.{IsTrue, slice_get, Result, Ok, Err}
use Rattle.std.specs.Option.{option_map_or}
use Rattle.std.specs.Ordering.{ordering_then}
use Rattle.std.proofs.lemmas.Bool.{cases_order}
use Rattle.std.proofs.lemmas.Option.{slice_get-get_or}
use Rattle.std.proofs.lemmas.List.Elements.{All-head, All-tail, Contains-append_cases}
use Rattle.kb_lemmas.proofs.Membership.{slice_contains, contains_cases, contains_behind, contains_first, none_in}
use Rattle.kb_lemmas.proofs.Options.{none_some, some_is}
use Rattle.kb_term.specs.Tree.{Tree}
use Rattle.kb_term.specs.Position.{subtree_at}
use Rattle.kb_term.specs.Substitution.{instance, IsVariant}
use Rattle.kb_term.specs.Rule.{Rule}
use Rattle.kb_term.specs.Proving.{RewritesAt}
use Rattle.kb_term.specs.Pair.{Pair, term_limit}
use Rattle.kb_term.specs.View.{tree_of}
use Rattle.kb_term.specs.Made.{IsLimitedAnswer}
use Rattle.kb_term.specs.declared.term.Term.{Term}
use Rattle.kb_term.specs.declared.limit.Limit.{Limit}
use Rattle.kb_term.specs.declared.fault.TermFault.{TermFault}
use Rattle.kb_term.specs.declared.fault.TermFault.TheVariants.{Large}
use Rattle.kb_term.specs.declared.origin.RuleRef.{RuleRef}
use Rattle.kb_term.specs.declared.origin.Found.{Found}
use Rattle.kb_term.specs.declared.origin.Found.TheVariants.{No, Variant, Strict}
use Rattle.kb_overlap.specs.Trace.{side}
use Rattle.kb_rewrite.specs.NormalForm.{Encompasses, IsFound, IsRedex, IsFirstRedex as IsFirst, HasNoRedex}
use Rattle.kb_rewrite.specs.Search.{IsRedexAnswer, IsStepAnswer}
use Rattle.kb_rewrite.specs.declared.redex.Redex.{Redex}
use Rattle.kb_node.specs.declared.job.Fact.{Fact}
use Rattle.kb_node.specs.declared.job.LimitCause.{LimitCause}
use Rattle.kb_node.specs.declared.node.NodeId.{NodeId}
use Rattle.mkb_model.specs.Jobs.{numbers_cmp}
use Rattle.mkb_model.specs.Proposals.{NamedRule, IsUsableRedex, IsFirstRedex, IsIrreducible, IsFactOf, IsRewriting, IsLargeRewriting, AreMissingFacts, redex_cmp, reason_of}
use Rattle.mkb_model.proofs.Lists.{clash, not_true}
use Rattle.kb_jobs.specs.Rules.{named, listed, AreInOrder, ComesBefore, AreNamed}
use Rattle.kb_jobs.specs.Reducing.{is_any, usable, name_at, no_name, unknown_of, IsReducible, IsFactAt, AreFactsAt}
use Rattle.kb_jobs.specs.declared.reducing.ReduceSnapshot.{ReduceSnapshot}
use Rattle.kb_jobs.proofs.Preorder.{Ascending, nat_same, numbers_same, ascending_of, comes_after, position_of}

-- ---- named rules

pub named_at : (names : List RuleRef) (rules : List Rule) (i : ℕ) (a : RuleRef) (r : Rule) → slice_get names i ≡ Some a → slice_get rules i ≡ Some r → Contains (named names rules) (record { ref = a; rule = r })
named_at [] rules i a r h k = none_some h
named_at (x ∷ names) [] i a r h k = none_some k
named_at (x ∷ names) (y ∷ rules) zero a r h k =
    subst {A = RuleRef} (λ z. Contains (record { ref = x; rule = y } ∷ named names rules) (record { ref = z; rule = r })) (some_is h)
    (subst {A = Rule} (λ z. Contains (record { ref = x; rule = y } ∷ named names rules) (record { ref = x; rule = z })) (some_is k) (contains_first (record { ref = x; rule = y }) (named names rules)))
named_at (x ∷ names) (y ∷ rules) (suc i) a r h k = contains_behind (record { ref = x; rule = y }) (named names rules) (record { ref = a; rule = r }) (named_at names rules i a r h k)

pub named_in : (names : List RuleRef) (rules : List Rule) (x : NamedRule) → Contains (named names rules) x → (i : ℕ) × (slice_get names i ≡ Some x.ref) × (slice_get rules i ≡ Some x.rule)
named_in [] rules x c = none_in c
named_in (a ∷ names) [] x c = none_in c
named_in (a ∷ names) (r ∷ rules) x c =
    ⊎_elim
    (λ e. (0, ap (λ (z : NamedRule). Some z.ref) e, ap (λ (z : NamedRule). Some z.rule) e))
    (λ k. let m = named_in names rules x k in (suc m.0, m.1, m.2))
    (contains_cases (record { ref = a; rule = r }) (named names rules) x c)

-- what indexing gave is the member with the number
pub read_at : {X : Type 0} (xs : List X) (i : ℕ) (x : X) → i < length xs → x ≡ get_or xs i x → slice_get xs i ≡ Some x
read_at xs i x h is = slice_get-get_or xs i x h ∙ ap Some (sym is)

in_order : (names : List RuleRef) → AreInOrder names → (i j : ℕ) (a c : RuleRef) → i < j → slice_get names i ≡ Some a → slice_get names j ≡ Some c → ComesBefore a c
in_order [] h i j a c l e f = none_some e
in_order (x ∷ names) h i zero a c l e f = absurd (omega (arith, l))
in_order (x ∷ names) h zero (suc j) a c l e f = subst {A = RuleRef} (λ z. ComesBefore z c) (some_is e) (h.0 c (slice_contains names j c f))
in_order (x ∷ names) h (suc i) (suc j) a c l e f = in_order names h.1 i j a c (omega (arith, l)) e f

-- there is a member at each number below the length
pub slice_there : {X : Type 0} (xs : List X) (i : ℕ) → i < length xs → (x : X) × (slice_get xs i ≡ Some x)
slice_there [] i h = absurd (omega (arith, h))
slice_there (x ∷ xs) zero h = (x, refl)
slice_there (x ∷ xs) (suc i) h = slice_there xs i (omega (arith, h))

pub name_there : (s : ReduceSnapshot) → AreNamed s.rules → (i : ℕ) → i < length s.rules.rules → slice_get s.rules.names.items i ≡ Some (name_at s i)
name_there s h i l =
    let m = slice_there s.rules.names.items i (let e = h.as_many in omega (arith, e, l)) in
    m.1 ∙ ap Some (sym (ap (λ (o : Option RuleRef). option_map_or (λ (a : RuleRef). a) o no_name) m.1))

-- ---- redexes

-- a search that found nothing, in the words of the caller
pub no_redex : (rules : List Rule) (b : Bool) (t : Tree) (o : Option Redex) (rules' : List Rule) (t' : Tree) → rules ≡ rules' → t ≡ t' → o ≡ None → IsRedexAnswer rules b t o → HasNoRedex rules' b t'
no_redex rules b t o rules' t' e f g h =
    subst {A = List Rule} (λ z. HasNoRedex z b t') e (subst {A = Tree} (λ z. HasNoRedex rules b z) f (subst {A = Option Redex} (λ z. IsRedexAnswer rules b t z) g h))

-- the sides by their numbers
pub first_side : (p : Pair) (w : ℕ) → w < 1 → p.first ≡ side p w
first_side p zero h = refl
first_side p (suc w) h = absurd (omega (arith, h))

pub second_side : (p : Pair) (w : ℕ) → 0 < w → p.second ≡ side p w
second_side p zero h = absurd (omega (arith, h))
second_side p (suc w) h = refl

-- a rule of which no redex may be rewritten has none, but for the whole term where only strict ones may be
pub none_left : (rules : List Rule) (i : ℕ) (r : Rule) (b : Bool) (t : Tree) → slice_get rules i ≡ Some r → HasNoRedex rules b t → (b ≡ true → ¬ IsVariant t r.left) → ¬ Encompasses t r.left
none_left rules i r b t e h v m = h m.0 i (record { rule = r; there = e; matches = m.1; strict = v })

side_cases : (w : ℕ) → w ≤ 1 → (w ≡ 0) ⊎ (w ≡ 1)
side_cases zero h = inl refl
side_cases (suc zero) h = inr refl
side_cases (suc (suc w)) h = absurd (omega (arith, h))

less_fine : (o : Ordering) → o ≡ Less → o ≢ Greater
less_fine o h k = absurd (clash_orders (sym h ∙ k))
  where
    clash_orders : Less ≡ Greater → ⊥
    clash_orders e = cc

equal_fine : (o : Ordering) → o ≡ Equal → o ≢ Greater
equal_fine o h k = absurd (clash_orders (sym h ∙ k))
  where
    clash_orders : Equal ≡ Greater → ⊥
    clash_orders e = cc

module _ (s : ReduceSnapshot) (fits : IsReducible s) where
  -- the search goes over strict redexes alone where not any may be rewritten
  abbrev Searched : ℕ → List ℕ → ℕ → Type 0
  Searched w p i = IsRedex s.rules.rules (not (is_any s w)) (side s.pair w) p i

  -- what may be rewritten is what the search goes over
  searched : (w : ℕ) (p : List ℕ) (c : RuleRef) (k : Found) (t : Tree) → IsUsableRedex (listed s.rules) s.pair (usable s) w p c k t → (i : ℕ) × (slice_get s.rules.names.items i ≡ Some c) × Searched w p i
  searched w p c k t u =
      let m = named_in s.rules.names.items s.rules.rules (record { ref = c; rule = u.rule }) u.listed in
      (m.0, m.1, record { rule = u.rule; there = m.2; matches = (instance u.rewrites.0 u.rule.left, u.rewrites.1.redex, (u.rewrites.0, refl)); strict = strict k u.found u.may_be })
    where
      strict : (k : Found) → IsFound (side s.pair w) u.rule k → IsTrue (usable s w k) → not (is_any s w) ≡ true → ¬ IsVariant (side s.pair w) u.rule.left
      strict No f h e = clash h refl
      strict Variant f h e = clash h (not_true e)
      strict Strict f h e = f.1

  none_usable : HasNoRedex s.rules.rules (not (is_any s 0)) (side s.pair 0) → HasNoRedex s.rules.rules (not (is_any s 1)) (side s.pair 1) → IsIrreducible (listed s.rules) s.pair (usable s)
  none_usable first second w p c k t u = go u.is_side
    where
      r : (i : ℕ) × (slice_get s.rules.names.items i ≡ Some c) × Searched w p i
      r = searched w p c k t u

      go : (w ≡ 0) ⊎ (w ≡ 1) → ⊥
      go (inl e) = first p r.0 (subst {A = ℕ} (λ z. IsRedex s.rules.rules (not (is_any s z)) (side s.pair z) p r.0) e r.2)
      go (inr e) = second p r.0 (subst {A = ℕ} (λ z. IsRedex s.rules.rules (not (is_any s z)) (side s.pair z) p r.0) e r.2)

  -- a found redex may be rewritten
  may_be : (w : ℕ) (p : List ℕ) (i : ℕ) (r : Searched w p i) (k : Found) → IsFound (side s.pair w) r.rule k → IsTrue (usable s w k)
  may_be w p i r No f = absurd (f (p, r.matches))
  may_be w p i r Variant f = go (is_any s w) refl
    where
      go : (b : Bool) → is_any s w ≡ b → is_any s w ≡ true
      go true e = e
      go false e = absurd (r.strict (ap not e) f)
  may_be w p i r Strict f = refl

  same_side : (w : ℕ) (p : List ℕ) (i : ℕ) (a : RuleRef) (f : IsFirst s.rules.rules (not (is_any s w)) (side s.pair w) p i) → slice_get s.rules.names.items i ≡ Some a
      → (q : List ℕ) (j : ℕ) (c : RuleRef) (u : Tree) → subtree_at (side s.pair w) q ≡ Some u → Searched w q j → slice_get s.rules.names.items j ≡ Some c
      → ordering_then (numbers_cmp p q) (ordering_then (nat_cmp a.node c.node) (nat_cmp a.dir c.dir)) ≢ Greater
  same_side w p i a f there q j c u at r there' =
      ⊎_elim
      (λ k. absurd (f.none_before q j k r))
      (λ k. ⊎_elim at_place (λ l. less_fine (ordering_then (numbers_cmp p q) (ordering_then (nat_cmp a.node c.node) (nat_cmp a.dir c.dir))) (ap (λ o. ordering_then o (ordering_then (nat_cmp a.node c.node) (nat_cmp a.dir c.dir))) (behind l))) (contains_cases p f.after q k))
      (Contains-append_cases f.before (p ∷ f.after) q (subst {A = List (List ℕ)} (λ z. Contains z q) f.in_preorder (position_of (side s.pair w) q u at)))
    where
      behind : Contains f.after q → numbers_cmp p q ≡ Less
      behind l = comes_after f.before p f.after (subst {A = List (List ℕ)} Ascending f.in_preorder (ascending_of (side s.pair w))) q l

      by_rules : numbers_cmp p q ≡ Equal → ordering_then (nat_cmp a.node c.node) (nat_cmp a.dir c.dir) ≢ Greater → ordering_then (numbers_cmp p q) (ordering_then (nat_cmp a.node c.node) (nat_cmp a.dir c.dir)) ≢ Greater
      by_rules e h = subst {A = Ordering} (λ o. ordering_then o (ordering_then (nat_cmp a.node c.node) (nat_cmp a.dir c.dir)) ≢ Greater) (sym e) h

      equal_rules : i ≡ j → ordering_then (nat_cmp a.node c.node) (nat_cmp a.dir c.dir) ≢ Greater
      equal_rules e =
          let same : a ≡ c = some_is (sym there ∙ ap (slice_get s.rules.names.items) e ∙ there') in
          equal_fine (ordering_then (nat_cmp a.node c.node) (nat_cmp a.dir c.dir)) (ap (λ (z : RuleRef). ordering_then (nat_cmp a.node z.node) (nat_cmp a.dir z.dir)) (sym same) ∙ ap (λ o. ordering_then o (nat_cmp a.dir a.dir)) (nat_same a.node) ∙ nat_same a.dir)

      at_place : p ≡ q → ordering_then (numbers_cmp p q) (ordering_then (nat_cmp a.node c.node) (nat_cmp a.dir c.dir)) ≢ Greater
      at_place e = by_rules (subst {A = List ℕ} (λ z. numbers_cmp p z ≡ Equal) e (numbers_same p))
          (⊎_elim equal_rules
          (⊎_elim
          (λ l. less_fine (ordering_then (nat_cmp a.node c.node) (nat_cmp a.dir c.dir)) (in_order s.rules.names.items fits.rules.ordered i j a c l there there'))
          (λ l. absurd (f.first_rule j l (subst {A = List ℕ} (λ z. IsRedex s.rules.rules (not (is_any s w)) (side s.pair w) z j) (sym e) r))))
          (cases_order i j))

  -- the first redex that the search finds, with its result, is the first that may be rewritten
  pub first_found : (w : ℕ) (p : List ℕ) (i : ℕ) (a : RuleRef) (kind : Found) (v : Tree) → (w ≡ 0) ⊎ (w ≡ 1) → (f : IsFirst s.rules.rules (not (is_any s w)) (side s.pair w) p i) → slice_get s.rules.names.items i ≡ Some a
      → IsFound (side s.pair w) f.redex.rule kind → RewritesAt f.redex.rule p (side s.pair w) v → (w ≡ 1 → HasNoRedex s.rules.rules (not (is_any s 0)) (side s.pair 0))
      → IsFirstRedex (listed s.rules) s.pair (usable s) w p a kind v
  first_found w p i a kind v sided f there found rewrites before = record {
    is_redex = record { rule = f.redex.rule; listed = named_at s.rules.names.items s.rules.rules i a f.redex.rule there f.redex.there; is_side = sided; rewrites = rewrites; found = found; may_be = may_be w p i f.redex kind found };
    is_first = λ x q c k t u. go x q c k t u sided u.is_side;
  }
    where
      same : (x : ℕ) → w ≡ x → (q : List ℕ) (c : RuleRef) (k : Found) (t : Tree) → IsUsableRedex (listed s.rules) s.pair (usable s) x q c k t → redex_cmp w p a x q c ≢ Greater
      same x e q c k t u =
          let u' : IsUsableRedex (listed s.rules) s.pair (usable s) w q c k t = subst {A = ℕ} (λ z. IsUsableRedex (listed s.rules) s.pair (usable s) z q c k t) (sym e) u in
          let m = searched w q c k t u' in
          subst {A = Ordering} (λ o. ordering_then o (ordering_then (numbers_cmp p q) (ordering_then (nat_cmp a.node c.node) (nat_cmp a.dir c.dir))) ≢ Greater) (sym (nat_same w) ∙ ap (nat_cmp w) e)
          (same_side w p i a f there q m.0 c (instance u'.rewrites.0 u'.rule.left) u'.rewrites.1.redex m.2 m.1)

      go : (x : ℕ) (q : List ℕ) (c : RuleRef) (k : Found) (t : Tree) → IsUsableRedex (listed s.rules) s.pair (usable s) x q c k t → (w ≡ 0) ⊎ (w ≡ 1) → (x ≡ 0) ⊎ (x ≡ 1) → redex_cmp w p a x q c ≢ Greater
      go x q c k t u (inl d) (inl e) = same x (d ∙ sym e) q c k t u
      go x q c k t u (inr d) (inr e) = same x (d ∙ sym e) q c k t u
      go x q c k t u (inl d) (inr e) =
          less_fine (redex_cmp w p a x q c) (ap (λ o. ordering_then o (ordering_then (numbers_cmp p q) (ordering_then (nat_cmp a.node c.node) (nat_cmp a.dir c.dir)))) (ap (λ z. nat_cmp z x) d ∙ ap (nat_cmp 0) e))
      go x q c k t u (inr d) (inl e) =
          let u' : IsUsableRedex (listed s.rules) s.pair (usable s) 0 q c k t = subst {A = ℕ} (λ z. IsUsableRedex (listed s.rules) s.pair (usable s) z q c k t) e u in
          let m = searched 0 q c k t u' in
          absurd (before d q m.0 m.2)

  -- the first redex found, with what the step answers, is what is proposed
  pub rewriting : (w : ℕ) (redex : Redex) (a : RuleRef) (t : Tree) (answer : Result Term TermFault) (u : Term) → w ≤ 1 → t ≡ side s.pair w → IsRedexAnswer s.rules.rules (not (is_any s w)) (side s.pair w) (Some redex)
      → slice_get s.rules.names.items redex.rule ≡ Some a → IsStepAnswer s.rules.rules t redex.position redex.rule answer → answer ≡ Ok u → (w ≡ 1 → HasNoRedex s.rules.rules (not (is_any s 0)) (side s.pair 0))
      → IsRewriting (listed s.rules) s.pair (usable s) w redex.position a redex.kind (tree_of u)
  rewriting w redex a t answer u small e found there step is before =
      let f = found.0 in
      let r = step f.redex.rule f.redex.there in
      let made : (tree_of u ≡ r.0) × (term_limit r.0 ≡ None) = subst {A = Result Term TermFault} (IsLimitedAnswer r.0) is r.2 in
      subst {A = Tree} (IsRewriting (listed s.rules) s.pair (usable s) w redex.position a redex.kind) (sym made.0)
      (record {
        first = first_found w redex.position redex.rule a redex.kind r.0 (side_cases w small) f there (found.1 f.redex.rule f.redex.there) (subst {A = Tree} (λ z. RewritesAt f.redex.rule redex.position z r.0) e r.1) before;
        fits = made.1;
      })

  pub large : (w : ℕ) (redex : Redex) (a : RuleRef) (t : Tree) (answer : Result Term TermFault) (limit : Limit) (cause : LimitCause) → w ≤ 1 → t ≡ side s.pair w → IsRedexAnswer s.rules.rules (not (is_any s w)) (side s.pair w) (Some redex)
      → slice_get s.rules.names.items redex.rule ≡ Some a → IsStepAnswer s.rules.rules t redex.position redex.rule answer → answer ≡ Err (Large limit) → (w ≡ 1 → HasNoRedex s.rules.rules (not (is_any s 0)) (side s.pair 0))
      → cause.redex ≡ Some (w, a, redex.kind) → cause.reason ≡ reason_of limit → IsLargeRewriting (listed s.rules) s.pair (usable s) cause
  large w redex a t answer limit cause small e found there step is before redex_is reason_is =
      let f = found.0 in
      let r = step f.redex.rule f.redex.there in
      record {
        side = w;
        at = redex.position;
        rule = a;
        kind = redex.kind;
        result = r.0;
        limit = limit;
        first = first_found w redex.position redex.rule a redex.kind r.0 (side_cases w small) f there (found.1 f.redex.rule f.redex.there) (subst {A = Tree} (λ z. RewritesAt f.redex.rule redex.position z r.0) e r.1) before;
        passes = subst {A = Result Term TermFault} (IsLimitedAnswer r.0) is r.2;
        redex_is = redex_is;
        reason_is = reason_is;
      }

  -- ---- facts

  -- one more fact
  pub facts_more : (us : List (ℕ × ℕ)) (i : ℕ) (u : ℕ × ℕ) (fs : List Fact) (f : Fact) → slice_get us i ≡ Some u → AreFactsAt s (take i us) fs → IsFactAt s u f → AreFactsAt s (take (suc i) us) (fs ++ f ∷ [])
  facts_more [] i u fs f e h k = none_some e
  facts_more (x ∷ us) zero u fs f e h k = (f, [], ap (λ z. z ++ f ∷ []) h, subst {A = ℕ × ℕ} (λ z. IsFactAt s z f) (sym (some_is e)) k, refl)
  facts_more (x ∷ us) (suc i) u fs f e (g, rest, q, one, more) k = (g, rest ++ f ∷ [], ap (λ z. z ++ f ∷ []) q, one, facts_more us i u rest f e more k)

  fact_nodes : (us : List (ℕ × ℕ)) (fs : List Fact) → AreFactsAt s us fs → (f : Fact) → Contains fs f → f.node.0 ≡ s.node.0
  fact_nodes [] fs h f i = none_in (subst {A = List Fact} (λ z. Contains z f) h i)
  fact_nodes (u ∷ us) fs (g, rest, e, one, more) f i = ⊎_elim (λ q. ap (λ (z : Fact). z.node.0) (sym q) ∙ ap (λ (z : NodeId). z.0) one.node) (λ j. fact_nodes us rest more f j) (contains_cases g rest f (subst {A = List Fact} (λ z. Contains z f) e i))

  abbrev key : Fact → ℕ × RuleRef
  key f = (f.side, f.rule)

  abbrev place : ℕ × ℕ → ℕ × RuleRef
  place u = (u.0, name_at s u.1)

  fact_keys : (us : List (ℕ × ℕ)) (fs : List Fact) → AreFactsAt s us fs → map key fs ≡ map place us
  fact_keys [] fs h = ap (map key) h
  fact_keys (u ∷ us) fs (g, rest, e, one, more) =
      ap (map key) e ∙ ap (λ (x : ℕ × RuleRef). x ∷ map key rest) (ap {B = ℕ × RuleRef} (λ z. (z, g.rule)) one.side_is ∙ ap {B = ℕ × RuleRef} (λ (z : RuleRef). (u.0, z)) one.name) ∙ ap (λ zs. place u ∷ zs) (fact_keys us rest more)

  fact_true : (u : ℕ × ℕ) (f : Fact) → u.1 < length s.rules.rules → IsFactAt s u f → IsFactOf (listed s.rules) s.pair f
  fact_true u f l h =
      (h.rule, named_at s.rules.names.items s.rules.rules u.1 f.rule h.rule (name_there s fits.rules u.1 l ∙ ap Some (sym h.name)) h.there, subst {A = ℕ} (λ z. IsFound (side s.pair z) h.rule f.found) (sym h.side_is) h.found)

  facts_true : (us : List (ℕ × ℕ)) → All (λ (u : ℕ × ℕ). (u.0 ≤ 1) × (u.1 < length s.rules.rules)) us → (fs : List Fact) → AreFactsAt s us fs → (f : Fact) → Contains fs f → IsFactOf (listed s.rules) s.pair f
  facts_true [] l fs h f i = none_in (subst {A = List Fact} (λ z. Contains z f) h i)
  facts_true (u ∷ us) l fs (g, rest, e, one, more) f i =
      ⊎_elim (λ q. subst {A = Fact} (IsFactOf (listed s.rules) s.pair) q (fact_true u g (All-head (λ (u : ℕ × ℕ). (u.0 ≤ 1) × (u.1 < length s.rules.rules)) u us l).1 one))
      (λ j. facts_true us (All-tail (λ (u : ℕ × ℕ). (u.0 ≤ 1) × (u.1 < length s.rules.rules)) u us l) rest more f j) (contains_cases g rest f (subst {A = List Fact} (λ z. Contains z f) e i))

  -- where nothing may be rewritten, these facts are what is proposed
  pub facts_missing : HasNoRedex s.rules.rules (not (is_any s 0)) (side s.pair 0) → HasNoRedex s.rules.rules (not (is_any s 1)) (side s.pair 1) → (fs : List Fact) → AreFactsAt s s.unknown.items fs
      → AreMissingFacts (listed s.rules) s.pair (usable s) s.node.0 (unknown_of s) fs
  facts_missing first second fs h = record {
    none_usable = none_usable first second;
    at_node = fact_nodes s.unknown.items fs h;
    are_unknown = fact_keys s.unknown.items fs h;
    are_true = facts_true s.unknown.items fits.unknown fs h;
  }
