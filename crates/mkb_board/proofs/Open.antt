-- What a Reduce reads of the rules: those that can't be of use at the node are left out.
use Rattle.std.proofs.Common.{ℕ, ◌≡◌, ◌≢◌, ◌⊎◌, inl, inr, refl, sym, ap, ap₂, ◌∙◌, subst, ⊎_elim, List, [], ◌∷◌, ◌++◌, map, filter, flat_map, Contains, Bool, true, false, cond, not, ◌&&◌, ◌||◌, ◌==◌, Option, Some, None}
use Rattle.std.specs.Prelude.{option_map, is_none}
use Rattle.std.proofs.Math.Bool.{or-true, and-true}
use Rattle.std.proofs.lemmas.Bool.{and_cases, or_parts}
use Rattle.kb_lemmas.proofs.Booleans.{and_gives_left}
use Rattle.kb_lemmas.proofs.Options.{none_some, some_is}
use Rattle.kb_term.specs.Pair.{Pair}
use Rattle.kb_term.specs.Rule.{Rule}
use Rattle.kb_term.specs.declared.origin.RuleRef.{RuleRef}
use Rattle.kb_term.specs.declared.origin.Found.{Found}
use Rattle.kb_term.specs.declared.origin.Found.TheVariants.{No, Variant, Strict}
use Rattle.kb_term.specs.Tree.{Tree, variable}
use Rattle.kb_term.specs.Substitution.{IsVariant}
use Rattle.kb_label.specs.Names.{Name}
use Rattle.kb_overlap.specs.Trace.{side}
use Rattle.kb_rewrite.specs.NormalForm.{Encompasses, IsFound}
use Rattle.mkb_model.specs.Invariants.{FactsHold}
use Rattle.mkb_model.specs.Plain.{Plain, is_equation, is_rule, known, pair_at, rule_at, rules_of}
use Rattle.mkb_model.specs.DueJobs.{is_usable, reducers}
use Rattle.mkb_model.specs.Proposals.{NamedRule, named_rules, unknown}
use Rattle.mkb_model.proofs.Lists.{clash, filter_in, filter_map_in, in_filter, in_filter_map}
use Rattle.mkb_model.proofs.closing.LeftAlone.{known_holds}
use Rattle.kb_jobs.specs.Reducing.{unknown_of}
use Rattle.kb_jobs.specs.Rules.{listed}
use Rattle.kb_jobs.specs.Taken.{IsTakenReduce}
use Rattle.kb_jobs.specs.declared.reducing.ReduceSnapshot.{ReduceSnapshot}
use Rattle.mkb_rules.specs.Roles.{roles_of}
use Rattle.mkb_agenda.specs.Open.{is_open_in, is_open_to, is_usable_in}
use Rattle.mkb_board.specs.Snapshots.{open_rules, unknown_on}
use Rattle.mkb_rules.specs.declared.roles.Roles.{Roles}

-- ---- lists

-- where two tests agree on whatever passes a third, the same passes it and either
filter_kept : {A : Type 0} (q e o : A → Bool) (xs : List A) → ((x : A) → q x ≡ true → e x ≡ o x) → filter q (filter e xs) ≡ filter q (filter o xs)
filter_kept q e o [] h = refl
filter_kept {A} q e o (x ∷ xs) h = go (filter_kept q e o xs h) (q x) refl
  where
    dropped : q x ≡ false → (t : Bool) (ys : List A) → filter q (cond t (x ∷ ys) ys) ≡ filter q ys
    dropped off true ys = ap (λ u. cond u (x ∷ filter q ys) (filter q ys)) off
    dropped off false ys = refl

    alike : (t : Bool) (ys zs : List A) → filter q ys ≡ filter q zs → filter q (cond t (x ∷ ys) ys) ≡ filter q (cond t (x ∷ zs) zs)
    alike true ys zs k = ap (λ (l : List A). cond (q x) (x ∷ l) l) k
    alike false ys zs k = k

    go : filter q (filter e xs) ≡ filter q (filter o xs) → (t : Bool) → q x ≡ t → filter q (cond (e x) (x ∷ filter e xs) (filter e xs)) ≡ filter q (cond (o x) (x ∷ filter o xs) (filter o xs))
    go ih true on = ap (λ t. filter q (cond t (x ∷ filter e xs) (filter e xs))) (h x on) ∙ alike (o x) (filter e xs) (filter o xs) ih
    go ih false off = dropped off (e x) (filter e xs) ∙ ih ∙ sym (dropped off (o x) (filter o xs))

is_unknown : (o : Option Found) → is_none o ≡ true → o ≡ None
is_unknown None h = refl
is_unknown (Some k) h = clash h refl

-- ---- what is unknown

module _ (b : Plain) (p : Name) (n : ℕ) where
  abbrev elsewhere : RuleRef → Bool
  elsewhere a = not (a.node == n)

  -- a rule elsewhere of which nothing is known on side 0 is open
  unknown_first : (a : RuleRef) → is_none (known b n 0 a) ≡ true → is_open_to b (roles_of b p n) n a ≡ elsewhere a
  unknown_first a h =
      ap (λ o. elsewhere a && (is_open_in (roles_of b p n) 0 o || (is_open_in (roles_of b p n) 1 (known b n 1 a) || false))) (is_unknown (known b n 0 a) h)
      ∙ and-true (elsewhere a)

  -- or on side 1
  unknown_second : (a : RuleRef) → is_none (known b n 1 a) ≡ true → is_open_to b (roles_of b p n) n a ≡ elsewhere a
  unknown_second a h =
      ap (λ o. elsewhere a && (is_open_in (roles_of b p n) 0 (known b n 0 a) || (is_open_in (roles_of b p n) 1 o || false))) (is_unknown (known b n 1 a) h)
      ∙ ap (λ z. elsewhere a && z) (or-true (is_open_in (roles_of b p n) 0 (known b n 0 a)))
      ∙ and-true (elsewhere a)

  -- what is unknown of open rules is what is unknown of all
  pub unknown_open : flat_map (unknown_on b n (open_rules b p n)) (0 ∷ 1 ∷ []) ≡ unknown b p n
  unknown_open =
      ap₂ (λ (x y : List RuleRef). map (λ a. (0, a)) x ++ (map (λ a. (1, a)) y ++ []))
      (filter_kept (λ a. is_none (known b n 0 a)) (is_open_to b (roles_of b p n) n) elsewhere (rules_of b p) unknown_first)
      (filter_kept (λ a. is_none (known b n 1 a)) (is_open_to b (roles_of b p n) n) elsewhere (rules_of b p) unknown_second)

-- ---- idle rules

variant_has : (t : Tree) (rule : Rule) → IsVariant t rule.left → Encompasses t rule.left
variant_has t rule (r, back, m) = ([], (t, refl, ((λ x. variable (back x)), m.back_again)))

-- where what is found may not be rewritten, nothing that is found may be
idle_found : (t : Tree) (rule : Rule) (may : Found → Bool) (k kind : Found) → IsFound t rule k → k ≢ Strict → may k ≡ false → may No ≡ false → IsFound t rule kind → may kind ≡ false
idle_found t rule may k No f lax off none g = none
idle_found t rule may No Variant f lax off none g = absurd (f (variant_has t rule g))
idle_found t rule may No Strict f lax off none g = absurd (f g.0)
idle_found t rule may Variant Variant f lax off none g = off
idle_found t rule may Variant Strict f lax off none g = absurd (g.1 f)
idle_found t rule may Strict kind f lax off none g = absurd (lax refl)

closed_known : (b : Plain) (r : Roles) (n w : ℕ) (a : RuleRef) (o : Option Found) → known b n w a ≡ o → is_open_in r w o ≡ false → (k : Found) × (known b n w a ≡ Some k) × (is_usable_in r w k ≡ false)
closed_known b r n w a None e h = clash refl h
closed_known b r n w a (Some k) e h = (k, e, h)

usable_first : (b : Plain) (p : Name) (n : ℕ) (k : Found) → is_usable_in (roles_of b p n) 0 k ≡ is_usable b p n 0 k
usable_first b p n No = refl
usable_first b p n Variant = refl
usable_first b p n Strict = refl

usable_second : (b : Plain) (p : Name) (n : ℕ) (k : Found) → is_usable_in (roles_of b p n) 1 k ≡ is_usable b p n 1 k
usable_second b p n No = refl
usable_second b p n Variant = refl
usable_second b p n Strict = refl

module _ (b : Plain) (p : Name) (n : ℕ) (facts : FactsHold b) (q : Pair) (there : pair_at b n ≡ Some q) (a : RuleRef) (rule : Rule) (rule_there : rule_at b a ≡ Some rule) where
  idle_side : (w : ℕ) → is_open_in (roles_of b p n) w (known b n w a) ≡ false → ((k : Found) → is_usable_in (roles_of b p n) w k ≡ is_usable b p n w k) → (kind : Found) → IsFound (side q w) rule kind → is_usable b p n w kind ≡ false
  idle_side w closed same kind found =
      let c = closed_known b (roles_of b p n) n w a (known b n w a) refl closed in
      let k = known_holds b n w a c.0 facts c.1 q there rule rule_there in
      idle_found (side q w) rule (is_usable b p n w) c.0 kind k.0 k.1 (sym (same c.0) ∙ c.2) refl found

  -- a rule elsewhere to which no side is open is idle
  idle : is_open_to b (roles_of b p n) n a ≡ false → not (a.node == n) ≡ true → (w : ℕ) (kind : Found) → (w ≡ 0) ⊎ (w ≡ 1) → IsFound (side q w) rule kind → is_usable b p n w kind ≡ false
  idle closed away w kind h found =
      let first = is_open_in (roles_of b p n) 0 (known b n 0 a) in
      let second = is_open_in (roles_of b p n) 1 (known b n 1 a) in
      let c : (first || (second || false)) ≡ false = ⊎_elim (λ e. clash away e) (λ e. e) (and_cases (not (a.node == n)) (first || (second || false)) closed) in
      let d = or_parts first (second || false) c in
      let e = or_parts second false d.1 in
      ⊎_elim
      (λ z. subst {A = ℕ} (λ v. IsFound (side q v) rule kind → is_usable b p n v kind ≡ false) (sym z) (idle_side 0 d.0 (usable_first b p n) kind) found)
      (λ z. subst {A = ℕ} (λ v. IsFound (side q v) rule kind → is_usable b p n v kind ≡ false) (sym z) (idle_side 1 e.0 (usable_second b p n) kind) found)
      h

-- ---- the rules that are read

named_at : (b : Plain) (a : RuleRef) (x : NamedRule) (o : Option Rule) → rule_at b a ≡ o → option_map (λ (r : Rule). record { ref = a; rule = r }) o ≡ Some x → rule_at b a ≡ Some x.rule
named_at b a x None e h = none_some h
named_at b a x (Some r) e h = e ∙ ap (λ (z : NamedRule). Some z.rule) (some_is h)

module _ (b : Plain) (p : Name) (n : ℕ) where
  abbrev naming : RuleRef → Option NamedRule
  naming a = option_map (λ (r : Rule). record { ref = a; rule = r }) (rule_at b a)

  abbrev away : RuleRef → Bool
  away a = not (a.node == n)

  -- an open rule is one of the process elsewhere
  open_elsewhere : (x : NamedRule) → Contains (named_rules b (open_rules b p n)) x → Contains (named_rules b (reducers b p n)) x
  open_elsewhere x i =
      let f = filter_map_in naming (open_rules b p n) x i in
      let o = filter_in (is_open_to b (roles_of b p n) n) (rules_of b p) f.0 f.1 in
      in_filter_map naming (reducers b p n) f.0 x (in_filter away (rules_of b p) f.0 o.0 (and_gives_left (away f.0) _ o.1)) f.2

  -- each rule of the process elsewhere is open, or idle
  open_or_idle : FactsHold b → (q : Pair) → pair_at b n ≡ Some q → (x : NamedRule) → Contains (named_rules b (reducers b p n)) x
      → Contains (named_rules b (open_rules b p n)) x ⊎ ((w : ℕ) (kind : Found) → (w ≡ 0) ⊎ (w ≡ 1) → IsFound (side q w) x.rule kind → is_usable b p n w kind ≡ false)
  open_or_idle facts q there x i = go (is_open_to b (roles_of b p n) n f.0) refl
    where
      f : (a : RuleRef) × Contains (reducers b p n) a × (naming a ≡ Some x)
      f = filter_map_in naming (reducers b p n) x i

      o : Contains (rules_of b p) f.0 × (away f.0 ≡ true)
      o = filter_in away (rules_of b p) f.0 f.1

      go : (t : Bool) → is_open_to b (roles_of b p n) n f.0 ≡ t → Contains (named_rules b (open_rules b p n)) x ⊎ ((w : ℕ) (kind : Found) → (w ≡ 0) ⊎ (w ≡ 1) → IsFound (side q w) x.rule kind → is_usable b p n w kind ≡ false)
      go true e = inl (in_filter_map naming (open_rules b p n) f.0 x (in_filter (is_open_to b (roles_of b p n) n) (rules_of b p) f.0 o.0 e) f.2)
      go false e = inr (idle b p n facts q there f.0 x.rule (named_at b f.0 x (rule_at b f.0) refl f.2) e o.1)

-- what a Reduce reads where idle rules are left out
pub taken_open : (b : Plain) (s : ReduceSnapshot) → FactsHold b → pair_at b s.node.0 ≡ Some s.pair → listed s.rules ≡ named_rules b (open_rules b s.process s.node.0)
    → s.any_first ≡ (is_equation b s.process s.node.0 || is_rule b s.process (record { node = s.node.0; dir = 1 })) → s.any_second ≡ (is_equation b s.process s.node.0 || is_rule b s.process (record { node = s.node.0; dir = 0 }))
    → unknown_of s ≡ flat_map (unknown_on b s.node.0 (open_rules b s.process s.node.0)) (0 ∷ 1 ∷ []) → IsTakenReduce b s
taken_open b s facts pair rules first second u = record {
  pair = pair;
  rules = λ x i. open_elsewhere b s.process s.node.0 x (subst {A = List NamedRule} (λ (l : List NamedRule). Contains l x) rules i);
  others = λ x i. ⊎_elim (λ k. inl (subst {A = List NamedRule} (λ (l : List NamedRule). Contains l x) (sym rules) k)) (λ k. inr k) (open_or_idle b s.process s.node.0 facts s.pair pair x i);
  any_first = first;
  any_second = second;
  unknown = u ∙ unknown_open b s.process s.node.0;
}
