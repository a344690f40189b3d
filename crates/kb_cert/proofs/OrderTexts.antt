-- Reading weights with a precedence.
use Rattle.std.proofs.Common.{ℕ, ◌-◌, ◌≤◌, ◌<◌, ◌≡◌, sym, ap, ap₂, ◌∙◌, subst, arith, List, [], ◌∷◌, ◌++◌, length, map, All, true, false, zero-lt-suc}
use Rattle.std.specs.Prelude.{decimal, nat_eq, ◌&&◌}
use Rattle.std.specs.List.{list_all, join_with_byte}
use Rattle.std.proofs.lemmas.Bool.{eqb-true, eq-eqb, and_from, and_parts}
use Rattle.kb_lemmas.proofs.Membership.{all_more, all_rest}
use Rattle.kb_term.specs.Signature.{Signature}
use Rattle.kb_kbo.specs.KnuthBendix.{KboOrder}
use Rattle.kb_kbo.specs.Measures.{order_of}
use Rattle.kb_cert.specs.CertificateText.{each_behind, names_of, name_at, is_between, are_weights, is_precedence}
use Rattle.kb_cert.specs.Reading.{IsFree, IsFieldEnd, AreNumbers, SpellsNumbers, IsWeightsText, IsPrecedenceText, IsOrderText}
use Rattle.kb_cert.proofs.Texts.{join_with_byte-behind}
use Rattle.kb_cert.proofs.Fields.{one_cut, behind_at_end, first_piece, number_free}
use Rattle.kb_cert.proofs.RowLaws.{between_from, between_to, free_append, numbers_free}

-- the first weight is the first field, and the others are the rest
pub weights_found : (count : ℕ) (text field rest : List ℕ) (first : ℕ) (start old new : List ℕ) → 0 < count → text ≡ field ++ rest → ((1 ≤ first) × (first ≤ 15)) × (decimal first ≡ field) → start ≡ [] → old ≡ start ++ first ∷ [] → SpellsNumbers 15 (count - 1) rest old new true → IsWeightsText count text new
weights_found count text field rest first start old new l t c o n (more, d, a) =
    let e : new ≡ first ∷ more = d ∙ ap (λ z. z ++ more) n ∙ ap (λ z. (z ++ first ∷ []) ++ more) o in
    subst (IsWeightsText count text) (sym e) (record {
      count_is = let k = a.count_is in omega arith;
      each = all_more (λ n. (1 ≤ n) × (n ≤ 15)) first more c.0 a.each;
      spelling = join_with_byte-behind 44 (decimal first) (map decimal more) ∙ ap₂ (λ x y. x ++ y) c.1 a.spelling ∙ sym t;
    })

weights_parts : (count : ℕ) (text field rest weights : List ℕ) → 0 < count → text ≡ field ++ rest → IsFieldEnd 44 field rest → IsWeightsText count text weights → (first : ℕ) × ((1 ≤ first) × (first ≤ 15)) × (decimal first ≡ field) × (more : List ℕ) × AreNumbers 15 (count - 1) rest more
weights_parts count text field rest [] l t e w = absurd (let k = w.count_is in omega arith)
weights_parts count text field rest (x ∷ xs) l t e w =
    let q = w.each 0 x (zero-lt-suc _) in
    let p = one_cut 44 (decimal x) field (each_behind 44 (map decimal xs)) rest (number_free 44 x (omega arith) q.1) e.free (behind_at_end 44 (map decimal xs)) e.at_end
    (sym (join_with_byte-behind 44 (decimal x) (map decimal xs)) ∙ w.spelling ∙ t) in
    (x, q, p.0, xs, record { count_is = let k = w.count_is in omega arith; each = all_rest (λ n. (1 ≤ n) × (n ≤ 15)) x xs w.each; spelling = p.1 })

pub weights_none : (count : ℕ) (text field rest old new : List ℕ) → 0 < count → text ≡ field ++ rest → IsFieldEnd 44 field rest → SpellsNumbers 15 (count - 1) rest old new false → (weights : List ℕ) → ¬ IsWeightsText count text weights
weights_none count text field rest old new l t e h weights w = let r = weights_parts count text field rest weights l t e w in h r.3 r.4

pub weights_no_first : (count : ℕ) (text field rest : List ℕ) → 0 < count → text ≡ field ++ rest → IsFieldEnd 44 field rest → ((n : ℕ) → (1 ≤ n) × (n ≤ 15) → ¬ (decimal n ≡ field)) → (weights : List ℕ) → ¬ IsWeightsText count text weights
weights_no_first count text field rest l t e h weights w = let r = weights_parts count text field rest weights l t e w in h r.0 r.1 r.2

-- the weights are the first field, and the names are the rest
pub order_found : (sig : Signature) (count : ℕ) (text field rest weights symbols : List ℕ) → 0 < count → count ≡ length sig → text ≡ 32 ∷ (field ++ rest) → IsWeightsText count field weights → IsPrecedenceText sig rest symbols → IsOrderText sig text (order_of weights symbols)
order_found sig count text field rest [] symbols l c t w p = absurd (let k = w.count_is in omega arith)
order_found sig count text field rest (x ∷ xs) symbols l c t w p = record {
  order_is = and_from (are_weights sig (x ∷ xs)) (is_precedence sig symbols) (and_from (nat_eq (length (x ∷ xs)) (length sig)) (list_all (is_between 1 15) (x ∷ xs)) (eq-eqb (length (x ∷ xs)) (length sig) (w.count_is ∙ c)) (between_to 15 (x ∷ xs) w.each)) p.precedence_is;
  spelling = ap₂ (λ a b. 32 ∷ (a ++ b)) w.spelling p.spelling ∙ sym t;
}

weights_free : (x : ℕ) (xs : List ℕ) → All (λ n. (1 ≤ n) × (n ≤ 15)) (x ∷ xs) → IsFree 32 (join_with_byte 44 (decimal x ∷ map decimal xs))
weights_free x xs h =
    let q = h 0 x (zero-lt-suc _) in
    subst (IsFree 32) (sym (join_with_byte-behind 44 (decimal x) (map decimal xs)))
    (free_append 32 (decimal x) (each_behind 44 (map decimal xs)) (number_free 32 x (omega arith) q.1) (numbers_free 15 xs (omega arith) (all_rest (λ n. (1 ≤ n) × (n ≤ 15)) x xs h)))

-- what the test of weights says
pub tested : (sig : Signature) (weights symbols : List ℕ) → (are_weights sig weights && is_precedence sig symbols) ≡ true → (length weights ≡ length sig) × All (λ n. (1 ≤ n) × (n ≤ 15)) weights × (is_precedence sig symbols ≡ true)
tested sig weights symbols h =
    let b = and_parts (are_weights sig weights) (is_precedence sig symbols) h in
    let w = and_parts (nat_eq (length weights) (length sig)) (list_all (is_between 1 15) weights) b.0 in
    (eqb-true (length weights) (length sig) w.0, between_from 15 weights w.1, b.1)

order_parts : (sig : Signature) (count : ℕ) (text field rest weights symbols : List ℕ) → 0 < count → count ≡ length sig → IsFieldEnd 32 field rest → text ≡ 32 ∷ (field ++ rest) → IsOrderText sig text (order_of weights symbols) → IsWeightsText count field weights × IsPrecedenceText sig rest symbols
order_parts sig count text field rest [] symbols l c f t o = absurd (let k = tested sig [] symbols o.order_is in omega (arith, k.0))
order_parts sig count text field rest (x ∷ xs) symbols l c f t o =
    let k = tested sig (x ∷ xs) symbols o.order_is in
    let p = first_piece 32 (join_with_byte 44 (decimal x ∷ map decimal xs)) (map (name_at (names_of sig)) symbols) text field rest (weights_free x xs k.1) f t o.spelling in
    (record { count_is = k.0 ∙ sym c; each = k.1; spelling = p.0 }, record { precedence_is = k.2; spelling = p.1 })

pub order_no_weights : (sig : Signature) (count : ℕ) (text field rest : List ℕ) → 0 < count → count ≡ length sig → IsFieldEnd 32 field rest → text ≡ 32 ∷ (field ++ rest) → ((weights : List ℕ) → ¬ IsWeightsText count field weights) → (order : KboOrder) → ¬ IsOrderText sig text order
order_no_weights sig count text field rest l c f t h order o = h order.weights (order_parts sig count text field rest order.weights order.precedence l c f t o).0

pub order_no_precedence : (sig : Signature) (count : ℕ) (text field rest : List ℕ) → 0 < count → count ≡ length sig → IsFieldEnd 32 field rest → text ≡ 32 ∷ (field ++ rest) → ((symbols : List ℕ) → ¬ IsPrecedenceText sig rest symbols) → (order : KboOrder) → ¬ IsOrderText sig text order
order_no_precedence sig count text field rest l c f t h order o = h order.precedence (order_parts sig count text field rest order.weights order.precedence l c f t o).1
