-- The fields of a step decide the step.
use Rattle.std.proofs.Common.{◌≡◌, refl, ap, ap₂, sym, ◌∙◌, arith, ℕ, zero, suc, ◌+◌, ◌<◌, ◌≤◌, ◌==◌, ◌^◌, List, [], ◌∷◌, ◌++◌, Bool, true, length, get_or, length-append}
use Rattle.std.specs.Prelude.{codes, decimal, map, IsTrue}
use Rattle.std.specs.List.{join_with_byte, list_all, slice_split}
use Rattle.std.proofs.lemmas.Fmt.{decimal_digit, decimal_injective}
use Rattle.std.proofs.lemmas.Bool.{and_parts}
use Rattle.kb_term.specs.Pair.{Pair}
use Rattle.kb_term.specs.Signature.{Signature, IsSignature}
use Rattle.kb_term.specs.Tree.{Tree}
use Rattle.kb_term.specs.declared.origin.RuleRef.{RuleRef}
use Rattle.kb_term.specs.declared.origin.Origin.{Origin}
use Rattle.kb_term.specs.declared.origin.Origin.TheVariants.{Input, Rewrite, Overlap}
use Rattle.kb_overlap.specs.Trace.{TraceStep}
use Rattle.kb_text.specs.Terms.{TermSpelled, names_of, term_text, IsPairForm}
use Rattle.kb_text.proofs.Cuts.{fields_cut}
use Rattle.kb_text.proofs.TermParts.{one_spelled}
use Rattle.kb_trace.specs.TraceText.{position_text, origin_fields, step_fields, is_up_to, is_position, is_origin, IsStepForm}
use Rattle.kb_trace.proofs.StepForms.{up_to, placed, rewrite_form, overlap_form, numbers_without, first_spelled, second_spelled, pair_fields}

small_number : (m n : ℕ) → m ≤ 4096 → n ≤ 4096 → decimal m ≡ decimal n → m ≡ n
small_number m n h k e = decimal_injective m n (omega arith) (omega arith) e

-- ---- positions

abbrev head_of : List (List ℕ) → List ℕ
head_of [] = []
head_of (x ∷ xs) = x

abbrev tail_of : List (List ℕ) → List (List ℕ)
tail_of [] = []
tail_of (x ∷ xs) = xs

one_numbers : (p q : List ℕ) → list_all (is_up_to 8) p ≡ true → list_all (is_up_to 8) q ≡ true → map decimal p ≡ map decimal q → p ≡ q
one_numbers [] [] h k e = refl
one_numbers [] (n ∷ ns) h k e = absurd (cc)
one_numbers (m ∷ ms) [] h k e = absurd (cc)
one_numbers (m ∷ ms) (n ∷ ns) h k e =
    let x = and_parts (is_up_to 8 m) (list_all (is_up_to 8) ms) h in
    let y = and_parts (is_up_to 8 n) (list_all (is_up_to 8) ns) k in
    let l = up_to 8 m x.0 in
    let r = up_to 8 n y.0 in
    ap₂ (λ x xs. x ∷ xs) (small_number m n (omega arith) (omega arith) (ap head_of e)) (one_numbers ms ns x.1 y.1 (ap tail_of e))

-- the parts of the text of a position other than the root
pub position_parts : (n : ℕ) (ns : List ℕ) → list_all (is_up_to 8) (n ∷ ns) ≡ true → slice_split (λ b. b == 46) (position_text (n ∷ ns)) ≡ map decimal (n ∷ ns)
position_parts n ns h = fields_cut 46 (decimal n) (map decimal ns) (numbers_without 46 (omega arith) (n ∷ ns) h)

pub not_root : (n : ℕ) (ns : List ℕ) → list_all (is_up_to 8) (n ∷ ns) ≡ true → position_text (n ∷ ns) ≡ codes "e" → ⊥
not_root n ns h e =
    let l = up_to 8 n (and_parts (is_up_to 8 n) (list_all (is_up_to 8) ns) h).0 in
    let parts : map decimal (n ∷ ns) ≡ codes "e" ∷ [] = sym (position_parts n ns h) ∙ ap (slice_split (λ b. b == 46)) e in
    let digit : (48 + n) ∷ [] ≡ codes "e" = sym (decimal_digit n (omega arith)) ∙ ap head_of parts in
    let same = ap (λ xs. get_or xs 0 0) digit in
    omega arith

pub one_position : (p q : List ℕ) → is_position p ≡ true → is_position q ≡ true → position_text p ≡ position_text q → p ≡ q
one_position [] [] h k e = refl
one_position [] (n ∷ ns) h k e = absurd (not_root n ns (placed (n ∷ ns) k).each (sym e))
one_position (m ∷ ms) [] h k e = absurd (not_root m ms (placed (m ∷ ms) h).each e)
one_position (m ∷ ms) (n ∷ ns) h k e =
    let x = (placed (m ∷ ms) h).each in
    let y = (placed (n ∷ ns) k).each in
    one_numbers (m ∷ ms) (n ∷ ns) x y (sym (position_parts m ms x) ∙ ap (slice_split (λ b. b == 46)) e ∙ position_parts n ns y)

-- ---- origins

abbrev field : ℕ → List (List ℕ) → List ℕ
field k xs = get_or xs k []

one_origin : (o q : Origin) → is_origin o ≡ true → is_origin q ≡ true → origin_fields o ≡ origin_fields q → o ≡ q
one_origin (Input i) (Input j) h k e =
    let l = up_to 256 i h in
    let m = up_to 256 j k in
    ap Input (small_number i j (omega arith) (omega arith) (ap (field 1) e))
one_origin (Input i) (Rewrite a w p r) h k e = absurd (let n = ap length e in omega arith)
one_origin (Input i) (Overlap a b p) h k e = absurd (let n = ap length e in omega arith)
one_origin (Rewrite a w p r) (Input j) h k e = absurd (let n = ap length e in omega arith)
one_origin (Rewrite a w p r) (Rewrite b v q s) h k e =
    let f = rewrite_form a w p r h in
    let g = rewrite_form b v q s k in
    let fn = f.node in
    let gn = g.node in
    let fs = f.side in
    let gs = g.side in
    let fr = f.rule in
    let gr = g.rule in
    let nodes : a ≡ b = small_number a b (omega arith) (omega arith) (ap (field 1) e) in
    let sides : w ≡ v = small_number w v (omega arith) (omega arith) (ap (field 3) e) in
    let positions : p ≡ q = one_position p q f.position g.position (ap (field 5) e) in
    let rules : r.node ≡ s.node = small_number r.node s.node (omega arith) (omega arith) (ap (field 7) e) in
    let dirs : r.dir ≡ s.dir = small_number r.dir s.dir (omega arith) (omega arith) (ap (field 9) e) in
    λ i. Rewrite (nodes i) (sides i) (positions i) (record { node = rules i; dir = dirs i })
one_origin (Rewrite a w p r) (Overlap b d q) h k e = absurd (let n = ap (λ (xs : List (List ℕ)). get_or (get_or xs 0 []) 0 0) e in omega arith)
one_origin (Overlap a b p) (Input j) h k e = absurd (let n = ap length e in omega arith)
one_origin (Overlap a b p) (Rewrite d v q s) h k e = absurd (let n = ap (λ (xs : List (List ℕ)). get_or (get_or xs 0 []) 0 0) e in omega arith)
one_origin (Overlap a b p) (Overlap d t q) h k e =
    let f = overlap_form a b p h in
    let g = overlap_form d t q k in
    let fo = f.outer in
    let go = g.outer in
    let fi = f.inner in
    let gi = g.inner in
    let outers : a.node ≡ d.node = small_number a.node d.node (omega arith) (omega arith) (ap (field 1) e) in
    let outer_dirs : a.dir ≡ d.dir = small_number a.dir d.dir (omega arith) (omega arith) (ap (field 3) e) in
    let inners : b.node ≡ t.node = small_number b.node t.node (omega arith) (omega arith) (ap (field 5) e) in
    let inner_dirs : b.dir ≡ t.dir = small_number b.dir t.dir (omega arith) (omega arith) (ap (field 7) e) in
    let positions : p ≡ q = one_position p q f.position g.position (ap (field 9) e) in
    λ i. Overlap (record { node = outers i; dir = outer_dirs i }) (record { node = inners i; dir = inner_dirs i }) (positions i)

-- ---- steps

-- lists that end alike long begin alike
same_front : (xs ys zs ws : List (List ℕ)) → length zs ≡ length ws → xs ++ zs ≡ ys ++ ws → (xs ≡ ys) × (zs ≡ ws)
same_front [] [] zs ws h e = (refl, e)
same_front [] (y ∷ ys) zs ws h e = absurd (let n = ap length e in omega (arith, length-append ys ws))
same_front (x ∷ xs) [] zs ws h e = absurd (let n = ap length e in omega (arith, length-append xs zs))
same_front (x ∷ xs) (y ∷ ys) zs ws h e =
    let r = same_front xs ys zs ws h (ap tail_of e) in
    (ap₂ (λ x xs. x ∷ xs) (ap head_of e) r.0, r.1)

pub again : (signature : Signature) (bytes : List ℕ) (t : Tree) → bytes ≡ term_text (names_of signature) t → TermSpelled signature (term_text (names_of signature) t) t → TermSpelled signature bytes t
again signature bytes t e h = record { within = h.within; variables = h.variables; spelling = e }

pub one_step : (signature : Signature) → IsSignature signature → (k l : ℕ) (s u : TraceStep) → IsStepForm signature s → IsStepForm signature u → step_fields (names_of signature) k s ≡ step_fields (names_of signature) l u → s ≡ u
one_step signature i k l s u f g e =
    let names = names_of signature in
    let r = same_front (origin_fields s.origin) (origin_fields u.origin) (pair_fields names s.pair) (pair_fields names u.pair) refl (ap tail_of e) in
    let origins = one_origin s.origin u.origin f.origin g.origin r.0 in
    let first_text : term_text names s.pair.first ≡ term_text names u.pair.first = ap (field 1) r.1 in
    let second_text : term_text names s.pair.second ≡ term_text names u.pair.second = ap (field 3) r.1 in
    let firsts : s.pair.first ≡ u.pair.first = one_spelled signature (term_text names s.pair.first) s.pair.first u.pair.first i (first_spelled signature s.pair f.pair) (again signature (term_text names s.pair.first) u.pair.first first_text (first_spelled signature u.pair g.pair)) in
    let seconds : s.pair.second ≡ u.pair.second = one_spelled signature (term_text names s.pair.second) s.pair.second u.pair.second i (second_spelled signature s.pair f.pair) (again signature (term_text names s.pair.second) u.pair.second second_text (second_spelled signature u.pair g.pair)) in
    λ j. record { origin = origins j; pair = record { first = firsts j; second = seconds j } }
