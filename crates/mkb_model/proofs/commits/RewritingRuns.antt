-- A rewriting is a run of completion of each process that it acts on: it simplifies an equation, or composes or collapses a rule.
use Rattle.std.proofs.Common.{ℕ, zero, suc, ◌≡◌, ◌≢◌, ◌⊎◌, ◌↔◌, inl, inr, refl, sym, ap, ◌∙◌, subst, arith, List, Some, None, ⊎_elim, Bool, true, false, cond}
use Rattle.std.proofs.lemmas.Bool.{and_from, or_cases}
use Rattle.kb_laws.proofs.CompletionLaws.{same_equation_itself}
use Rattle.kb_term.proofs.OwnPair.{tree_eq-true}
use Rattle.kb_lemmas.proofs.Booleans.{and_gives_left, and_gives_right}
use Rattle.kb_lemmas.proofs.Options.{some_is, none_some}
use Rattle.kb_term.specs.Tree.{Tree, tree_eq}
use Rattle.kb_term.specs.Pair.{Pair, canonical, numbered, canonical_pair, IsSameEquation}
use Rattle.kb_term.specs.Rule.{rule_of, IsVariantRule, rule_between}
use Rattle.kb_overlap.specs.Trace.{side, other_side}
use Rattle.kb_term.specs.declared.origin.RuleRef.{RuleRef}
use Rattle.kb_term.specs.declared.origin.Found.{Found}
use Rattle.kb_term.specs.declared.origin.Found.TheVariants.{No, Variant, Strict}
use Rattle.kb_label.specs.Names.{Name, has, meet, join}
use Rattle.mkb_model.specs.Plain.{Plain, PlainNode, label, label_at, rule_kind, other, sides}
use Rattle.mkb_model.specs.Effects.{loses, rewrite_label, direction, is_strict, if_strict, pair_eq}
use Rattle.kb_node.specs.declared.node.LabelKind.{LabelKind}
use Rattle.kb_node.specs.declared.node.LabelKind.TheVariants.{R0, R1, E, C0, C1, X}
use Rattle.kb_label.proofs.Members.{has-meet, has-join}
use Rattle.kb_term.proofs.CanonicalPairs.{lesser_cases}
use Rattle.mkb_model.specs.Ready.{IsOn, IsRole, OneRole}
use Rattle.mkb_model.proofs.Lists.{clash, false_unless}
use Rattle.mkb_model.proofs.commits.Roles.{on-loses, kind_number}
use Rattle.mkb_model.proofs.nodes.Pairs.{pair_eq-eq, pair_eq-refl}
use Rattle.mkb_model.proofs.commits.Views.{same_turned, rule_sym, rule_trans, rule_of-between, numbered_variant, from_side, to_side}
use Rattle.mkb_model.proofs.commits.Adding.{rule_role}

-- ---- small facts

pub trivial_none : (s t : Tree) → canonical_pair s t ≡ None → s ≡ t
trivial_none s t h = go (tree_eq s t) refl h
  where
    go : (b : Bool) → tree_eq s t ≡ b → cond b None (Some (canonical s t)) ≡ None → s ≡ t
    go true e k = tree_eq-true s t e
    go false e k = none_some (sym k)

pub some_canonical : (s t : Tree) (z : Pair) → canonical_pair s t ≡ Some z → canonical s t ≡ z
some_canonical s t z h = go (tree_eq s t) h
  where
    go : (b : Bool) → cond b None (Some (canonical s t)) ≡ Some z → canonical s t ≡ z
    go true k = none_some k
    go false k = some_is k

pub other_from : (q : Pair) (w : ℕ) → from_side q (other w) ≡ other_side q w
other_from q zero = refl
other_from q (suc w) = refl

pub other_to : (q : Pair) (w : ℕ) → to_side q (other w) ≡ side q w
other_to q zero = refl
other_to q (suc w) = refl

pub side_pair : (q : Pair) (w : ℕ) → IsSameEquation (sides q) (side q w, other_side q w)
side_pair q zero = same_equation_itself (sides q)
side_pair q (suc w) = same_turned q.first q.second

pub rule_of-side : (q : Pair) (w : ℕ) → IsVariantRule (rule_of q w) (rule_between (side q w) (other_side q w))
rule_of-side q zero = rule_of-between q 0
rule_of-side q (suc w) = rule_of-between q (suc w)

pub rule_of-other : (q : Pair) (w : ℕ) → IsVariantRule (rule_of q (other w)) (rule_between (other_side q w) (side q w))
rule_of-other q zero = rule_of-between q 1
rule_of-other q (suc w) = rule_of-between q 0

pub strict_is : (k : Found) → is_strict k ≡ true → k ≡ Strict
strict_is No h = clash h refl
strict_is Variant h = clash h refl
strict_is Strict h = refl

other_kind : (w : ℕ) → rule_kind w ≢ rule_kind (other w)
other_kind zero e = omega (arith, ap kind_number e)
other_kind (suc w) e = omega (arith, ap kind_number e)

-- the rule that is made leads from the side that was kept to the result
pub direction-rule : (s u : Tree) (z : Pair) → canonical_pair u s ≡ Some z → IsVariantRule (rule_of z (direction s u z)) (rule_between s u)
direction-rule s u z h = go (pair_eq (numbered s u) z) refl
  where
    along : numbered s u ≡ z → IsVariantRule (rule_of z 0) (rule_between s u)
    along e = rule_trans (rule_of z 0) (rule_between z.first z.second) (rule_between s u) (rule_of-between z 0) (rule_sym (rule_between s u) (rule_between z.first z.second) (subst {A = Pair} (λ w. IsVariantRule (rule_between s u) (rule_between w.first w.second)) e (numbered_variant s u)))

    back : numbered u s ≡ z → IsVariantRule (rule_of z 1) (rule_between s u)
    back e =
        let v = subst {A = Pair} (λ w. IsVariantRule (rule_between u s) (rule_between w.first w.second)) e (numbered_variant u s) in
        rule_trans (rule_of z 1) (rule_between z.second z.first) (rule_between s u) (rule_of-between z 1) (rule_sym (rule_between s u) (rule_between z.second z.first) (v.0, v.1, v.3, v.2))

    go : (b : Bool) → pair_eq (numbered s u) z ≡ b → IsVariantRule (rule_of z (cond b 0 1)) (rule_between s u)
    go true e = along (pair_eq-eq (numbered s u) z e)
    go false e = ⊎_elim (λ i. back (sym i ∙ some_canonical u s z h)) (λ i. clash (subst {A = Pair} (λ w. pair_eq (numbered s u) w ≡ true) (sym i ∙ some_canonical u s z h) (pair_eq-refl (numbered s u))) e) (lesser_cases (numbered u s) (numbered s u))

-- a process keeps one role for each node where rules are not gained, and an equation is gained where the node is no rule
pub one_role_kept : (xs ys : List PlainNode) (p : Name) (k : ℕ) → OneRole xs p → ((m : ℕ) → IsOn ys p m E → IsOn xs p m E ⊎ ((m ≡ k) × (¬ IsOn ys p k R0) × (¬ IsOn ys p k R1))) → ((m d : ℕ) → IsOn ys p m (rule_kind d) → IsOn xs p m (rule_kind d)) → OneRole ys p
one_role_kept xs ys p k one eqs rules n i j ri rj oi oj = go i j ri rj oi oj
  where
    before0 : IsOn ys p n E → IsOn ys p n R0 → IsOn xs p n E
    before0 o r = ⊎_elim (λ h. h) (λ h. absurd (h.1 (subst {A = ℕ} (λ m. IsOn ys p m R0) h.0 r))) (eqs n o)

    before1 : IsOn ys p n E → IsOn ys p n R1 → IsOn xs p n E
    before1 o r = ⊎_elim (λ h. h) (λ h. absurd (h.2 (subst {A = ℕ} (λ m. IsOn ys p m R1) h.0 r))) (eqs n o)

    go : (i j : LabelKind) → IsRole i → IsRole j → IsOn ys p n i → IsOn ys p n j → i ≡ j
    go E E ri rj oi oj = refl
    go R0 R0 ri rj oi oj = refl
    go R1 R1 ri rj oi oj = refl
    go E R0 ri rj oi oj = one n E R0 tt tt (before0 oi oj) (rules n 0 oj)
    go E R1 ri rj oi oj = one n E R1 tt tt (before1 oi oj) (rules n 1 oj)
    go R0 E ri rj oi oj = one n R0 E tt tt (rules n 0 oi) (before0 oj oi)
    go R1 E ri rj oi oj = one n R1 E tt tt (rules n 1 oi) (before1 oj oi)
    go R0 R1 ri rj oi oj = one n R0 R1 tt tt (rules n 0 oi) (rules n 1 oj)
    go R1 R0 ri rj oi oj = one n R1 R0 tt tt (rules n 1 oi) (rules n 0 oj)
    go C0 j ri rj oi oj = absurd ri
    go C1 j ri rj oi oj = absurd ri
    go X j ri rj oi oj = absurd ri
    go i C0 ri rj oi oj = absurd rj
    go i C1 ri rj oi oj = absurd rj
    go i X ri rj oi oj = absurd rj

-- ---- a rewriting

-- the three labels that a source may be
abbrev pub IsSource : ℕ → Found → LabelKind → Type 0
IsSource w kind s = (s ≡ E) ⊎ ((s ≡ rule_kind (other w)) ⊎ ((s ≡ rule_kind w) × (is_strict kind ≡ true)))

pub source_role : (w : ℕ) (kind : Found) (s : LabelKind) → IsSource w kind s → IsRole s
source_role w kind s (inl e) = subst {A = LabelKind} IsRole (sym e) tt
source_role w kind s (inr (inl e)) = subst {A = LabelKind} IsRole (sym e) (rule_role (other w))
source_role w kind s (inr (inr e)) = subst {A = LabelKind} IsRole (sym e.0) (rule_role w)

pub if_strict-has : (kind : Found) (l : List Name) (p : Name) → has (if_strict kind l) p ≡ true → (is_strict kind ≡ true) × (has l p ≡ true)
if_strict-has No l p h = clash h refl
if_strict-has Variant l p h = clash h refl
if_strict-has Strict l p h = (refl, h)

pub has-if_strict : (kind : Found) (l : List Name) (p : Name) → is_strict kind ≡ true → has l p ≡ true → has (if_strict kind l) p ≡ true
has-if_strict No l p e h = clash e refl
has-if_strict Variant l p e h = clash e refl
has-if_strict Strict l p e h = h

-- a process of the effect label has the rule, and the node in a source
pub source_of : (b : Plain) (n w : ℕ) (a : RuleRef) (kind : Found) (p : Name) → has (rewrite_label b n w a kind) p ≡ true → IsOn b.nodes p a.node (rule_kind a.dir) × ((s : LabelKind) × IsSource w kind s × IsOn b.nodes p n s)
source_of b n w a kind p h =
    let k = sym (has-meet (label b a.node (rule_kind a.dir)) (join (label b n E) (join (label b n (rule_kind (other w))) (if_strict kind (label b n (rule_kind w))))) p) ∙ h in
    let i = sym (has-join (label b n E) (join (label b n (rule_kind (other w))) (if_strict kind (label b n (rule_kind w)))) p) ∙ and_gives_left (has (join (label b n E) (join (label b n (rule_kind (other w))) (if_strict kind (label b n (rule_kind w))))) p) (has (label b a.node (rule_kind a.dir)) p) k in (
      and_gives_right (has (join (label b n E) (join (label b n (rule_kind (other w))) (if_strict kind (label b n (rule_kind w))))) p) (has (label b a.node (rule_kind a.dir)) p) k,
      ⊎_elim (λ o. (E, inl refl, o))
          (λ o. ⊎_elim (λ u. (rule_kind (other w), inr (inl refl), u)) (λ u. let v = if_strict-has kind (label b n (rule_kind w)) p u in (rule_kind w, inr (inr (refl, v.0)), v.1))
          (or_cases (has (label b n (rule_kind (other w))) p) (has (if_strict kind (label b n (rule_kind w))) p) (sym (has-join (label b n (rule_kind (other w))) (if_strict kind (label b n (rule_kind w))) p) ∙ o)))
          (or_cases (has (label b n E) p) (has (join (label b n (rule_kind (other w))) (if_strict kind (label b n (rule_kind w)))) p) i),
    )

-- the roles of a process of the label, after the sources lost it
module _ (l : List Name) (n w : ℕ) (kind : Found) (xs : List PlainNode) (p : Name) (named : has l p ≡ true) (one : OneRole xs p) (s : LabelKind) (source : IsSource w kind s) (on : IsOn xs p n s) where
  abbrev pub lost : List PlainNode
  lost = loses n E l (loses n (rule_kind (other w)) l (loses n (rule_kind w) (if_strict kind l) xs))

  pub on-lost : (m : ℕ) (j : LabelKind) → IsOn (loses n E l (loses n (rule_kind (other w)) l (loses n (rule_kind w) (if_strict kind l) xs))) p m j ↔ (IsOn xs p m j × ¬ ((m ≡ n) × (j ≡ s)))
  on-lost m j = (to, from)
    where
      third : IsOn (loses n (rule_kind w) (if_strict kind l) xs) p m j ↔ (IsOn xs p m j × ¬ (((m ≡ n) × (j ≡ rule_kind w)) × (has (if_strict kind l) p ≡ true)))
      third = on-loses n (rule_kind w) (if_strict kind l) xs p m j

      second : IsOn (loses n (rule_kind (other w)) l (loses n (rule_kind w) (if_strict kind l) xs)) p m j ↔ (IsOn (loses n (rule_kind w) (if_strict kind l) xs) p m j × ¬ (((m ≡ n) × (j ≡ rule_kind (other w))) × (has l p ≡ true)))
      second = on-loses n (rule_kind (other w)) l (loses n (rule_kind w) (if_strict kind l) xs) p m j

      first : IsOn (loses n E l (loses n (rule_kind (other w)) l (loses n (rule_kind w) (if_strict kind l) xs))) p m j ↔ (IsOn (loses n (rule_kind (other w)) l (loses n (rule_kind w) (if_strict kind l) xs)) p m j × ¬ (((m ≡ n) × (j ≡ E)) × (has l p ≡ true)))
      first = on-loses n E l (loses n (rule_kind (other w)) l (loses n (rule_kind w) (if_strict kind l) xs)) p m j

      to : IsOn (loses n E l (loses n (rule_kind (other w)) l (loses n (rule_kind w) (if_strict kind l) xs))) p m j → IsOn xs p m j × ¬ ((m ≡ n) × (j ≡ s))
      to o =
          let u = first.0 o in
          let v = second.0 u.0 in
          let x = third.0 v.0 in
          (x.0, λ i. away i u.1 v.1 x.1 source)
        where
          away : (m ≡ n) × (j ≡ s) → ¬ (((m ≡ n) × (j ≡ E)) × (has l p ≡ true)) → ¬ (((m ≡ n) × (j ≡ rule_kind (other w))) × (has l p ≡ true)) → ¬ (((m ≡ n) × (j ≡ rule_kind w)) × (has (if_strict kind l) p ≡ true)) → IsSource w kind s → ⊥
          away i u v x (inl e) = u ((i.0, i.1 ∙ e), named)
          away i u v x (inr (inl e)) = v ((i.0, i.1 ∙ e), named)
          away i u v x (inr (inr e)) = x ((i.0, i.1 ∙ e.0), has-if_strict kind l p e.1 named)

      same : (k : LabelKind) → IsRole k → IsOn xs p m j → (m ≡ n) × (j ≡ k) → j ≡ s
      same k rk o i = i.1 ∙ one n k s rk (source_role w kind s source) (subst {A = LabelKind} (IsOn xs p n) i.1 (subst {A = ℕ} (λ z. IsOn xs p z j) i.0 o)) on

      from : IsOn xs p m j × ¬ ((m ≡ n) × (j ≡ s)) → IsOn (loses n E l (loses n (rule_kind (other w)) l (loses n (rule_kind w) (if_strict kind l) xs))) p m j
      from (o, away) = first.1 (second.1 (third.1 (o, λ i. away (i.0.0, same (rule_kind w) (rule_role w) o i.0)), λ i. away (i.0.0, same (rule_kind (other w)) (rule_role (other w)) o i.0)), λ i. away (i.0.0, same E tt o i.0))

  -- who gains what
  pub gains_from : (k : LabelKind) → IsRole k → ¬ (k ≡ s) → has (meet l (label_at xs n k)) p ≡ false
  gains_from k rk h = false_unless (has (meet l (label_at xs n k)) p) (λ e. h (one n k s rk (source_role w kind s source) (and_gives_left (has (label_at xs n k) p) (has l p) (sym (has-meet l (label_at xs n k) p) ∙ e)) on))

  pub gains_own : has (meet l (label_at xs n s)) p ≡ true
  gains_own = has-meet l (label_at xs n s) p ∙ and_from (has (label_at xs n s) p) (has l p) on named
