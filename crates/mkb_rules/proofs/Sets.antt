-- Labels of effects, by their parts.
use Rattle.std.proofs.Common.{ℕ, ◌≡◌, Bool, true, false, cond, not, ◌&&◌, ◌||◌, if◌then◌else◌, List, [], ◌∷◌, filter, refl, ap, sym, ◌∙◌}
use Rattle.kb_label.specs.Names.{Name, has, is_empty, join, meet, minus}
use Rattle.kb_label.proofs.Members.{has-join}
use Rattle.kb_term.specs.declared.origin.Found.{Found}
use Rattle.kb_term.specs.declared.origin.RuleRef.{RuleRef}
use Rattle.mkb_model.specs.Plain.{Plain, label, other, rule_kind}
use Rattle.mkb_model.specs.Effects.{if_strict, orient_label, rewrite_label}
use Rattle.kb_node.specs.declared.node.LabelKind.TheVariants.{E}

-- a process without the equation
pub orient_none : (b : Plain) (p : Name) (n : ℕ) (l : List Name) → l ≡ label b n E → has l p ≡ false → orient_label b p n ≡ []
orient_none b p n l e h = ap (λ (t : Bool). if t then (p ∷ []) else []) (sym (ap (λ z. has z p) e) ∙ h)

-- nobody is in the union of two labels
pub meet_join-empty : (l m k : List Name) → is_empty (meet l (join m k)) ≡ (is_empty (meet l m) && is_empty (meet l k))
meet_join-empty [] m k = refl
meet_join-empty (p ∷ l) m k = ap (λ t. is_empty (cond t (p ∷ meet l (join m k)) (meet l (join m k)))) (has-join m k p) ∙ go (has m p) (has k p) (meet_join-empty l m k)
  where
    go : (a b : Bool) → is_empty (meet l (join m k)) ≡ (is_empty (meet l m) && is_empty (meet l k))
        → is_empty (cond (a || b) (p ∷ meet l (join m k)) (meet l (join m k))) ≡ (is_empty (cond a (p ∷ meet l m) (meet l m)) && is_empty (cond b (p ∷ meet l k) (meet l k)))
    go true b h = refl
    go false true h = sym (and_false (is_empty (meet l m)))
      where
        and_false : (t : Bool) → (t && false) ≡ false
        and_false true = refl
        and_false false = refl
    go false false h = h

-- nobody is in a label of nobody
pub meet_none-empty : (l : List Name) → is_empty (meet l []) ≡ true
meet_none-empty [] = refl
meet_none-empty (p ∷ l) = meet_none-empty l

-- nobody rewrites where nobody has the rule and is in a source
pub nobody_rewrites : (b : Plain) (n w : ℕ) (a : RuleRef) (found : Found) → is_empty (rewrite_label b n w a found)
    ≡ (is_empty (meet (label b a.node (rule_kind a.dir)) (label b n E)) && (is_empty (meet (label b a.node (rule_kind a.dir)) (label b n (rule_kind (other w)))) && is_empty (meet (label b a.node (rule_kind a.dir)) (if_strict found (label b n (rule_kind w))))))
nobody_rewrites b n w a found =
    let l = label b a.node (rule_kind a.dir) in
    let right = label b n (rule_kind (other w)) in
    let left = if_strict found (label b n (rule_kind w)) in
    meet_join-empty l (label b n E) (join right left) ∙ ap (λ t. is_empty (meet l (label b n E)) && t) (meet_join-empty l right left)

-- nobody is taken out
pub minus_none : (l : List Name) → minus l [] ≡ l
minus_none [] = refl
minus_none (p ∷ l) = ap (λ z. p ∷ z) (minus_none l)

-- taking names out of what a test leaves
out_of_rest : (t : Name → Bool) (m l : List Name) → minus (filter (λ p. not (t p)) l) m ≡ filter (λ p. not (t p || has m p)) l
out_of_rest t m [] = refl
out_of_rest t m (p ∷ l) = at_test (out_of_rest t m l) (t p) (has m p) refl
  where
    at_test : minus (filter (λ q. not (t q)) l) m ≡ filter (λ q. not (t q || has m q)) l → (a b : Bool) → has m p ≡ b
        → minus (if not a then (p ∷ filter (λ q. not (t q)) l) else (filter (λ q. not (t q)) l)) m
        ≡ (if not (a || b) then (p ∷ filter (λ q. not (t q || has m q)) l) else (filter (λ q. not (t q || has m q)) l))
    at_test h true b e = h
    at_test h false true e = ap (λ x. if not x then (p ∷ minus (filter (λ q. not (t q)) l) m) else (minus (filter (λ q. not (t q)) l) m)) e ∙ h
    at_test h false false e = ap (λ x. if not x then (p ∷ minus (filter (λ q. not (t q)) l) m) else (minus (filter (λ q. not (t q)) l) m)) e ∙ ap (λ z. p ∷ z) h

-- one of six tests holds
one_of_six : (a b c d e f : Bool) → (((((a || b) || c) || d) || e) || f) ≡ (a || (b || (c || (d || (e || (f || false))))))
one_of_six true b c d e f = refl
one_of_six false true c d e f = refl
one_of_six false false true d e f = refl
one_of_six false false false true e f = refl
one_of_six false false false false true f = refl
one_of_six false false false false false true = refl
one_of_six false false false false false false = refl

-- six labels taken out, one after another
pub out_of_six : (l a b c d e f : List Name) → minus (minus (minus (minus (minus (minus l a) b) c) d) e) f ≡ filter (λ p. not (has a p || (has b p || (has c p || (has d p || (has e p || (has f p || false))))))) l
out_of_six l a b c d e f =
    let two = out_of_rest (has a) b l in
    let three = ap (λ z. minus z c) two ∙ out_of_rest (λ p. has a p || has b p) c l in
    let four = ap (λ z. minus z d) three ∙ out_of_rest (λ p. (has a p || has b p) || has c p) d l in
    let five = ap (λ z. minus z e) four ∙ out_of_rest (λ p. ((has a p || has b p) || has c p) || has d p) e l in
    let six = ap (λ z. minus z f) five ∙ out_of_rest (λ p. (((has a p || has b p) || has c p) || has d p) || has e p) f l in
    six ∙ (λ i. filter (λ p. not (one_of_six (has a p) (has b p) (has c p) (has d p) (has e p) (has f p) i)) l)
