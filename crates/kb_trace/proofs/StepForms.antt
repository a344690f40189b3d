-- Steps of the form: what their numbers are, and that their fields hold no white space.
use Rattle.std.proofs.Common.{◌≡◌, ◌⊎◌, refl, ap, sym, ◌∙◌, subst, ⊎_elim, arith, ℕ, zero, suc, ◌+◌, ◌<◌, ◌≤◌, ◌==◌, ◌^◌, List, [], ◌∷◌, ◌++◌, Bool, true, false, cond, ◌&&◌, length, get_or, Some, None, All, Contains}
use Rattle.std.specs.Prelude.{codes, decimal, map, nat_le, IsTrue, ⊤}
use Rattle.std.specs.List.{join_with_byte, list_all}
use Rattle.std.proofs.lemmas.List.Elements.{Contains-get_or}
use Rattle.std.proofs.lemmas.Bool.{leb-true, le-leb, and_parts}
use Rattle.kb_lemmas.proofs.Numbers.{eq_above}
use Rattle.kb_term.specs.Tree.{Tree, variables_of, tree_eq, HasVariablesBelow}
use Rattle.kb_term.specs.Pair.{Pair, variables_of_pair, numbered, canonical, canonical_pair}
use Rattle.kb_term.specs.Signature.{Signature, IsSignature}
use Rattle.kb_term.specs.declared.origin.RuleRef.{RuleRef}
use Rattle.kb_term.specs.declared.origin.Origin.{Origin}
use Rattle.kb_term.specs.declared.origin.Origin.TheVariants.{Input, Rewrite, Overlap}
use Rattle.kb_term.proofs.CanonicalPairs.{lesser_cases}
use Rattle.kb_term.proofs.NameList.{variables_of_pair-swapped}
use Rattle.kb_term.proofs.RuleBelow.{numbered-below}
use Rattle.kb_overlap.specs.Trace.{TraceStep}
use Rattle.kb_text.specs.Fields.{IsWithout}
use Rattle.kb_text.specs.Names.{Name}
use Rattle.kb_text.specs.Terms.{TermSpelled, names_of, term_text, infix_text, IsPairForm}
use Rattle.kb_text.proofs.Cuts.{AreWithout, are_without-append}
use Rattle.kb_text.proofs.PlainTexts.{IsBlank, word_without, decimal_without, join_without, text_without}
use Rattle.kb_text.proofs.TermParts.{spelled_bounded}
use Rattle.kb_trace.specs.TraceText.{position_text, cited_fields, origin_fields, step_fields, is_up_to, is_position, is_cited, is_origin, IsStepForm}

-- ---- the numbers of an origin

pub record IsUpTo (highest n : ℕ) : Type 0 where
  pub low : 1 ≤ n
  pub high : n ≤ highest

pub up_to : (highest n : ℕ) → is_up_to highest n ≡ true → IsUpTo highest n
up_to highest n h = let r = and_parts (nat_le 1 n) (nat_le n highest) h in record { low = leb-true 1 n r.0; high = leb-true n highest r.1 }

pub is_up_to-true : (highest n : ℕ) → 1 ≤ n → n ≤ highest → is_up_to highest n ≡ true
is_up_to-true highest n h k = λ i. le-leb 1 n h i && le-leb n highest k i

pub record IsCited (r : RuleRef) : Type 0 where
  pub node : IsUpTo 4096 r.node
  pub dir : r.dir ≤ 1

pub cited : (r : RuleRef) → is_cited r ≡ true → IsCited r
cited r h = let e = and_parts (is_up_to 4096 r.node) (nat_le r.dir 1) h in record { node = up_to 4096 r.node e.0; dir = leb-true r.dir 1 e.1 }

pub record IsPlaced (p : List ℕ) : Type 0 where
  pub count : length p ≤ 63
  pub each : list_all (is_up_to 8) p ≡ true

pub placed : (p : List ℕ) → is_position p ≡ true → IsPlaced p
placed p h = let e = and_parts (nat_le (length p) 63) (list_all (is_up_to 8) p) h in record { count = leb-true (length p) 63 e.0; each = e.1 }

pub record IsRewriteForm (a w : ℕ) (p : List ℕ) (r : RuleRef) : Type 0 where
  pub node : IsUpTo 4096 a
  pub side : w ≤ 1
  pub position : is_position p ≡ true
  pub rule : IsCited r

pub rewrite_form : (a w : ℕ) (p : List ℕ) (r : RuleRef) → is_origin (Rewrite a w p r) ≡ true → IsRewriteForm a w p r
rewrite_form a w p r h =
    let x = and_parts (is_up_to 4096 a && nat_le w 1 && is_position p) (is_cited r) h in
    let y = and_parts (is_up_to 4096 a && nat_le w 1) (is_position p) x.0 in
    let z = and_parts (is_up_to 4096 a) (nat_le w 1) y.0 in
    record { node = up_to 4096 a z.0; side = leb-true w 1 z.1; position = y.1; rule = cited r x.1 }

pub record IsOverlapForm (a b : RuleRef) (p : List ℕ) : Type 0 where
  pub outer : IsCited a
  pub inner : IsCited b
  pub position : is_position p ≡ true

pub overlap_form : (a b : RuleRef) (p : List ℕ) → is_origin (Overlap a b p) ≡ true → IsOverlapForm a b p
overlap_form a b p h =
    let x = and_parts (is_cited a && is_cited b) (is_position p) h in
    let y = and_parts (is_cited a) (is_cited b) x.0 in
    record { outer = cited a y.0; inner = cited b y.1; position = x.1 }

-- ---- their fields hold no white space

pub numbers_without : (c : ℕ) → c < 48 → (p : List ℕ) → list_all (is_up_to 8) p ≡ true → AreWithout c (map decimal p)
numbers_without c h [] e = tt
numbers_without c h (n ∷ ns) e =
    let r = and_parts (is_up_to 8 n) (list_all (is_up_to 8) ns) e in
    let l = up_to 8 n r.0 in
    (decimal_without c n h (omega arith), numbers_without c h ns r.1)

position_without : (c : ℕ) → c < 40 → (p : List ℕ) → is_position p ≡ true → IsWithout c (position_text p)
position_without c h [] e = word_without c h (codes "e") refl
position_without c h (n ∷ ns) e = join_without c 46 (map decimal (n ∷ ns)) (eq_above 46 c (omega arith)) (numbers_without c (omega arith) (n ∷ ns) (placed (n ∷ ns) e).each)

number_without : (c : ℕ) → c < 40 → (n : ℕ) → n ≤ 4096 → IsWithout c (decimal n)
number_without c h n l = decimal_without c n (omega arith) (omega arith)

origin_without : (c : ℕ) → c < 40 → (o : Origin) → is_origin o ≡ true → AreWithout c (origin_fields o)
origin_without c h (Input i) e =
    let l = up_to 256 i e in
    (word_without c h (codes "input") refl, (number_without c h i (omega arith), tt))
origin_without c h (Rewrite a w p r) e =
    let f = rewrite_form a w p r e in
    let l = f.node in
    let m = f.side in
    let k = f.rule in
    (word_without c h (codes "rewrite") refl, (number_without c h a (omega arith), (word_without c h (codes "side") refl, (number_without c h w (omega arith), (word_without c h (codes "at") refl, (position_without c h p f.position, (word_without c h (codes "by") refl, (number_without c h r.node (omega arith), (word_without c h (codes "dir") refl, (number_without c h r.dir (omega arith), tt))))))))))
origin_without c h (Overlap a b p) e =
    let f = overlap_form a b p e in
    let l = f.outer in
    let k = f.inner in
    (word_without c h (codes "overlap") refl, (number_without c h a.node (omega arith), (word_without c h (codes "dir") refl, (number_without c h a.dir (omega arith), (word_without c h (codes "with") refl, (number_without c h b.node (omega arith), (word_without c h (codes "dir") refl, (number_without c h b.dir (omega arith), (word_without c h (codes "at") refl, (position_without c h p f.position, tt))))))))))

-- ---- pairs

the_pair : (b : Bool) (p q : Pair) → cond b None (Some p) ≡ Some q → p ≡ q
the_pair true p q e = absurd (cc)
the_pair false p q e = cc

all_below : (t : Tree) → HasVariablesBelow 64 t → All (λ n. n < 64) (variables_of t)
all_below t h = λ k d l. h (get_or (variables_of t) k d) (Contains-get_or (variables_of t) k d l)

pub record HasSmall (p : Pair) : Type 0 where
  pub first : HasVariablesBelow 64 p.first
  pub second : HasVariablesBelow 64 p.second

pub pair_small : (p : Pair) → canonical_pair p.first p.second ≡ Some p → length (variables_of_pair p.first p.second) ≤ 64 → HasSmall p
pair_small p e h =
    let is : canonical p.first p.second ≡ p = the_pair (tree_eq p.first p.second) (canonical p.first p.second) p e in
    ⊎_elim
    (λ q. let b = numbered-below p.first p.second 64 h in subst HasSmall (sym q ∙ is) (record { first = b.left; second = b.right }))
    (λ q. let b = numbered-below p.second p.first 64 (omega (arith, variables_of_pair-swapped p.first p.second)) in subst HasSmall (sym q ∙ is) (record { first = b.left; second = b.right }))
    (lesser_cases (numbered p.first p.second) (numbered p.second p.first))

pub first_spelled : (signature : Signature) (p : Pair) → IsPairForm signature p → TermSpelled signature (term_text (names_of signature) p.first) p.first
first_spelled signature p f = record { within = f.first; variables = all_below p.first (pair_small p f.canonical f.variables).first; spelling = refl }

pub second_spelled : (signature : Signature) (p : Pair) → IsPairForm signature p → TermSpelled signature (term_text (names_of signature) p.second) p.second
second_spelled signature p f = record { within = f.second; variables = all_below p.second (pair_small p f.canonical f.variables).second; spelling = refl }

abbrev pub pair_fields : List Name → Pair → List (List ℕ)
pair_fields names p = codes ":" ∷ infix_text names (codes "=") p.first p.second

pair_without : (c : ℕ) → IsBlank c → (signature : Signature) → IsSignature signature → (p : Pair) → IsPairForm signature p → AreWithout c (pair_fields (names_of signature) p)
pair_without c k signature s p f =
    let names = names_of signature in
    (word_without c k.low (codes ":") refl, (text_without c k signature s 64 p.first (spelled_bounded signature (term_text names p.first) p.first (first_spelled signature p f)), (word_without c k.low (codes "=") refl, (text_without c k signature s 64 p.second (spelled_bounded signature (term_text names p.second) p.second (second_spelled signature p f)), tt))))

pub step_without : (c : ℕ) → IsBlank c → (signature : Signature) → IsSignature signature → (k : ℕ) → k < 2 ^ 64 → (s : TraceStep) → IsStepForm signature s → AreWithout c (step_fields (names_of signature) k s)
step_without c b signature s k l step f =
    let low = b.low in
    (decimal_without c k (omega arith) l, are_without-append c (origin_fields step.origin) (pair_fields (names_of signature) step.pair) (origin_without c b.low step.origin f.origin) (pair_without c b signature s step.pair f.pair))

-- ---- lists of argument numbers

pub each_up_to : (p : List ℕ) → list_all (is_up_to 8) p ≡ true → (k : ℕ) → k < length p → IsUpTo 8 (get_or p k 0)
each_up_to [] h k l = absurd (omega arith)
each_up_to (n ∷ ns) h zero l = up_to 8 n (and_parts (is_up_to 8 n) (list_all (is_up_to 8) ns) h).0
each_up_to (n ∷ ns) h (suc k) l = each_up_to ns (and_parts (is_up_to 8 n) (list_all (is_up_to 8) ns) h).1 k (omega arith)

pub all_more : (p : List ℕ) (n : ℕ) → list_all (is_up_to 8) p ≡ true → is_up_to 8 n ≡ true → list_all (is_up_to 8) (p ++ n ∷ []) ≡ true
all_more [] n h e = λ i. e i && true
all_more (m ∷ ms) n h e =
    let r = and_parts (is_up_to 8 m) (list_all (is_up_to 8) ms) h in
    let k = all_more ms n r.1 e in
    λ i. r.0 i && k i

pub is_position-true : (p : List ℕ) → length p ≤ 63 → list_all (is_up_to 8) p ≡ true → is_position p ≡ true
is_position-true p h e = let l = le-leb (length p) 63 h in λ i. l i && e i
