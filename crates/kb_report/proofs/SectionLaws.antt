-- Sections of one line, and of a line for each item.
use Rattle.std.proofs.Common.{append_assoc, ◌≡◌, refl, ap, ap₂, sym, ◌∙◌, subst, arith, ℕ, suc, ◌+◌, ◌-◌, ◌<◌, ◌≤◌, List, [], ◌∷◌, ◌++◌, length, length-append, drop, All}
use Rattle.std.specs.Prelude.{replicate}
use Rattle.std.proofs.lemmas.List.{drop-drop, length-drop, length-replicate}
use Rattle.std.proofs.lemmas.List.Elements.{All-append, All-head, All-nil, All-push, All-replicate, All-tail}
use Rattle.kb_text.specs.Fields.{IsWithout}
use Rattle.kb_text.proofs.Cuts.{AreWithout}
use Rattle.kb_report.specs.Sections.{Lines, text_of, OneLine, item_lines, Items, BeginsWithLine, BeginsWith, IsBadFrom}
use Rattle.kb_report.proofs.LinesOfTexts.{text_of-append}
use Rattle.kb_report.proofs.Fronts.{IsSection}

-- ---- one line

pub line_section : {X : Type 0} (P : X → Type 0) (f : X → List ℕ) → ((x : X) → P x → IsWithout 10 (f x)) → ((x y : X) → P x → P y → f x ≡ f y → x ≡ y) → IsSection (OneLine P f)
line_section P f w i = record {
  without = λ x xs s. subst (AreWithout 10) (sym s.1) (w x s.0, tt);
  one = λ x y xs ys zs ws s t e.
      let lines : f x ∷ zs ≡ f y ∷ ws = ap (λ (ls : Lines). ls ++ zs) (sym s.1) ∙ e ∙ ap (λ (ls : Lines). ls ++ ws) t.1 in
      let same : f x ≡ f y = cc in
      let v = i x y s.0 t.0 same in
      (v, s.1 ∙ ap (λ z. f z ∷ []) v ∙ sym t.1);
}

pub line_read : {X : Type 0} (P : X → Type 0) (f : X → List ℕ) (text : List ℕ) (x : X) (rest : List ℕ) → BeginsWithLine P f text x rest → BeginsWith (OneLine P f) text x 1 rest
line_read P f text x rest b = record { lines = f x ∷ []; section = (b.form, refl); count_is = refl; parts = b.parts ∙ sym (append_assoc (f x) (10 ∷ []) rest) }

pub line_bad : {X : Type 0} (P : X → Type 0) (f : X → List ℕ) (text : List ℕ) (first : ℕ) (some : X) → P some → ((x : X) (back : List ℕ) → ¬ BeginsWithLine P f text x back) → IsBadFrom (OneLine P f) text first first
line_bad {X} P f text first some p none = record {
  lines = [];
  number_is = omega arith;
  rest = text;
  parts = refl;
  begin = (some, f some ∷ [], (p, refl));
  with_it = λ line back w e x more s. none x back (record { form = s.0; parts = (let same : line ≡ f x = cc in e ∙ ap (λ (l : List ℕ). l ++ 10 ∷ back) same) });
  not_whole = λ x s. let n = ap length s.1 in absurd (omega arith);
}

-- ---- items

pub items_without : {X : Type 0} (P : X → Type 0) (f : ℕ → X → List ℕ) (k : ℕ) (xs : List X) → ((n : ℕ) (x : X) → n ≤ 10000 → P x → IsWithout 10 (f n x)) → All P xs → k + length xs ≤ 10000 → AreWithout 10 (item_lines f k xs)
items_without P f k [] w a h = tt
items_without P f k (x ∷ xs) w a h = (w k x (omega arith) (All-head P x xs a), items_without P f (k + 1) xs w (All-tail P x xs a) (omega arith))

same_items : {X : Type 0} (P : X → Type 0) (f : ℕ → X → List ℕ) (k : ℕ) (xs ys : List X) (zs ws : Lines) → ((n : ℕ) (x y : X) → n ≤ 10000 → P x → P y → f n x ≡ f n y → x ≡ y) → All P xs → All P ys → length xs ≡ length ys → k + length xs ≤ 10000
    → item_lines f k xs ++ zs ≡ item_lines f k ys ++ ws → xs ≡ ys
same_items P f k [] [] zs ws i a b l h e = refl
same_items P f k [] (y ∷ ys) zs ws i a b l h e = absurd (omega arith)
same_items P f k (x ∷ xs) [] zs ws i a b l h e = absurd (omega arith)
same_items P f k (x ∷ xs) (y ∷ ys) zs ws i a b l h e =
    let same : f k x ≡ f k y = cc in
    let later : item_lines f (k + 1) xs ++ zs ≡ item_lines f (k + 1) ys ++ ws = cc in
    ap₂ (λ z zs. z ∷ zs) (i k x y (omega arith) (All-head P x xs a) (All-head P y ys b) same) (same_items P f (k + 1) xs ys zs ws i (All-tail P x xs a) (All-tail P y ys b) (omega arith) (omega arith) later)

pub items_section : {X : Type 0} (P : X → Type 0) (f : ℕ → X → List ℕ) (count : ℕ) → count ≤ 5000 → ((n : ℕ) (x : X) → n ≤ 10000 → P x → IsWithout 10 (f n x)) → ((n : ℕ) (x y : X) → n ≤ 10000 → P x → P y → f n x ≡ f n y → x ≡ y) → IsSection (Items P f count)
items_section P f count few w i = record {
  without = λ x xs s. let n = s.1 in subst (AreWithout 10) (sym s.2) (items_without P f 1 x w s.0 (omega arith));
  one = λ x y xs ys zs ws s t e.
      let n = s.1 in
      let m = t.1 in
      let lines = ap (λ (ls : Lines). ls ++ zs) (sym s.2) ∙ e ∙ ap (λ (ls : Lines). ls ++ ws) t.2 in
      let v = same_items P f 1 x y zs ws i s.0 t.0 (omega arith) (omega arith) lines in
      (v, s.2 ∙ ap (item_lines f 1) v ∙ sym t.2);
}

pub lines-more : {X : Type 0} (f : ℕ → X → List ℕ) (k : ℕ) (xs ys : List X) → item_lines f k (xs ++ ys) ≡ item_lines f k xs ++ item_lines f (k + length xs) ys
lines-more f k [] ys = let same : k ≡ k + 0 = omega arith in ap (λ n. item_lines f n ys) same
lines-more f k (x ∷ xs) ys = let same : k + 1 + length xs ≡ k + suc (length xs) = omega arith in ap (f k x ∷◌) (lines-more f (k + 1) xs ys ∙ ap (λ n. item_lines f (k + 1) xs ++ item_lines f n ys) same)

pub lines-length : {X : Type 0} (f : ℕ → X → List ℕ) (k : ℕ) (xs : List X) → length (item_lines f k xs) ≡ length xs
lines-length f k [] = refl
lines-length f k (x ∷ xs) = ap suc (lines-length f (k + 1) xs)

-- the items so far, and where the next line begins
pub record AreReadItems {X : Type 0} (P : X → Type 0) (f : ℕ → X → List ℕ) (text : List ℕ) (items : List X) (at : ℕ) : Type 0 where
  pub within : at ≤ length text
  pub each : All P items
  pub parts : text ≡ text_of (item_lines f 1 items) ++ drop at text

pub no_items : {X : Type 0} (P : X → Type 0) (f : ℕ → X → List ℕ) (text : List ℕ) → AreReadItems P f text [] 0
no_items P f text = record { within = omega arith; each = All-nil P; parts = refl }

pub item_pushed : {X : Type 0} (P : X → Type 0) (f : ℕ → X → List ℕ) (text rest : List ℕ) (items news : List X) (x : X) (at size number : ℕ) → AreReadItems P f text items at → rest ≡ drop at text → number ≡ length items + 1
    → BeginsWithLine P (f number) rest x (drop size rest) → size ≤ length rest → news ≡ items ++ x ∷ [] → AreReadItems P f text news (at + size)
item_pushed P f text rest items news x at size number r e n b h m =
    let within = r.within in
    let left : length rest ≡ length text - at = ap length e ∙ length-drop at text in
    let place : number ≡ 1 + length items = omega arith in
    record {
      within = omega arith;
      each = subst (All P) (sym m) (All-push P items x r.each b.form);
      parts = r.parts ∙ ap (text_of (item_lines f 1 items) ++◌) (sym e ∙ b.parts ∙ ap (λ (t : List ℕ). f number x ++ 10 ∷ t) (ap (drop size) e ∙ drop-drop size at text))
          ∙ ap (λ n. text_of (item_lines f 1 items) ++ (f n x ++ 10 ∷ drop (at + size) text)) place
          ∙ last (item_lines f 1 items) (f (1 + length items) x) (drop (at + size) text)
          ∙ ap (λ (ls : Lines). text_of ls ++ drop (at + size) text) (sym (lines-more f 1 items (x ∷ [])) ∙ ap (item_lines f 1) (sym m));
    }
  where
    last : (ls : Lines) (l back : List ℕ) → text_of ls ++ (l ++ 10 ∷ back) ≡ text_of (ls ++ l ∷ []) ++ back
    last ls l back =
        ap (text_of ls ++◌) (sym (append_assoc l (10 ∷ []) back)) ∙ sym (append_assoc (text_of ls) (l ++ 10 ∷ []) back) ∙ ap (λ (t : List ℕ). t ++ back) (sym (text_of-append ls (l ∷ [])))

pub items_whole : {X : Type 0} (P : X → Type 0) (f : ℕ → X → List ℕ) (text : List ℕ) (items : List X) (at count : ℕ) → AreReadItems P f text items at → length items ≡ count → BeginsWith (Items P f count) text items count (drop at text)
items_whole P f text items at count r n = record { lines = item_lines f 1 items; section = (r.each, n, refl); count_is = lines-length f 1 items ∙ n; parts = r.parts }

filled : {X : Type 0} (P : X → Type 0) (items : List X) (some : X) (n : ℕ) → All P items → P some → All P (items ++ replicate n some)
filled P items some n a p = All-append P items (replicate n some) a (All-replicate P n some p)

same_front : (xs ys zs ws : Lines) → length xs ≡ length ys → xs ++ zs ≡ ys ++ ws → (xs ≡ ys) × (zs ≡ ws)
same_front [] [] zs ws h e = (refl, e)
same_front [] (y ∷ ys) zs ws h e = absurd (omega arith)
same_front (x ∷ xs) [] zs ws h e = absurd (omega arith)
same_front (x ∷ xs) (y ∷ ys) zs ws h e =
    let s : x ≡ y = cc in
    let t : xs ++ zs ≡ ys ++ ws = cc in
    let r = same_front xs ys zs ws (omega arith) t in
    (ap₂ (λ (z : List ℕ) (zs : Lines). z ∷ zs) s r.0, r.1)

-- the item whose line stands behind so many lines of items
record HasItem {X : Type 0} (P : X → Type 0) (f : ℕ → X → List ℕ) (k : ℕ) (xs : List X) (n : ℕ) (line : List ℕ) : Type 0 where
  item : X
  form : P item
  line_is : line ≡ f (k + n) item

item_of : {X : Type 0} (P : X → Type 0) (f : ℕ → X → List ℕ) (k : ℕ) (xs : List X) (before : Lines) (line : List ℕ) (more : Lines) → All P xs → before ++ line ∷ more ≡ item_lines f k xs → HasItem P f k xs (length before) line
item_of P f k [] [] line more a e = absurd (cc)
item_of P f k [] (b ∷ bs) line more a e = absurd (cc)
item_of P f k (x ∷ xs) [] line more a e = let same : k ≡ k + 0 = omega arith in let s : line ≡ f k x = cc in record { item = x; form = All-head P x xs a; line_is = s ∙ ap (λ n. f n x) same }
item_of P f k (x ∷ xs) (b ∷ bs) line more a e =
    let t : bs ++ line ∷ more ≡ item_lines f (k + 1) xs = cc in
    let r = item_of P f (k + 1) xs bs line more (All-tail P x xs a) t in
    let same : k + 1 + length bs ≡ k + suc (length bs) = omega arith in
    record { item = r.item; form = r.form; line_is = r.line_is ∙ ap (λ n. f n r.item) same }

pub items_bad_at : {X : Type 0} (P : X → Type 0) (f : ℕ → X → List ℕ) (text rest : List ℕ) (items : List X) (count first number : ℕ) (some : X) → P some → All P items → text ≡ text_of (item_lines f 1 items) ++ rest → length items < count → number ≡ first + length items
    → ((x : X) (back : List ℕ) → ¬ BeginsWithLine P (f (length items + 1)) rest x back) → IsBadFrom (Items P f count) text first number
items_bad_at {X} P f text rest items count first number some p a e h n none =
    let long = lines-length f 1 items in
    record {
      lines = item_lines f 1 items;
      number_is = omega arith;
      rest = rest;
      parts = e;
      begin = (items ++ replicate (count - length items) some, item_lines f (1 + length items) (replicate (count - length items) some), (filled P items some (count - length items) a p, long_enough, sym (lines-more f 1 items (replicate (count - length items) some))));
      with_it = λ line back w q x more s.
          let i = item_of P f 1 x (item_lines f 1 items) line more s.0 s.2 in
          let place : 1 + length (item_lines f 1 items) ≡ length items + 1 = omega arith in
          none i.item back (record { form = i.form; parts = q ∙ ap (λ (l : List ℕ). l ++ 10 ∷ back) (i.line_is ∙ ap (λ k. f k i.item) place) });
      not_whole = λ x s. let m = ap length s.2 in let k = s.1 in absurd (omega (arith, lines-length f 1 x));
    }
  where
    long_enough : length (items ++ replicate (count - length items) some) ≡ count
    long_enough = omega (arith, length-append items (replicate (count - length items) some), length-replicate (count - length items) some)

pub items_bad : {X : Type 0} (P : X → Type 0) (f : ℕ → X → List ℕ) (text rest : List ℕ) (items : List X) (at count first number : ℕ) (some : X) → P some → AreReadItems P f text items at → rest ≡ drop at text → length items < count → number ≡ first + length items
    → ((x : X) (back : List ℕ) → ¬ BeginsWithLine P (f (length items + 1)) rest x back) → IsBadFrom (Items P f count) text first number
items_bad P f text rest items at count first number some p r e h n none =
    items_bad_at P f text rest items count first number some p r.each (r.parts ∙ ap (text_of (item_lines f 1 items) ++◌) (sym e)) h n none
