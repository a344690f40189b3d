-- Where each entry is zero or more steps from the state of a living ancestor, the states of the ancestors are a run of completion.
use Rattle.std.proofs.Common.{◌≡◌, ◌⊎◌, inl, inr, refl, sym, ap₂, ◌∙◌, subst, List, [], ◌∷◌, ◌++◌, Option, Some, None, ⊎_elim, Bool, true, false}
use Rattle.std.specs.Prelude.{⊤, unwrap_or}
use Rattle.std.specs.List.{find}
use Rattle.std.specs.Ordering.{is_eq}
use Rattle.std.proofs.lemmas.Bool.{and_from}
use Rattle.kb_label.proofs.Forked.{begins-trans}
use Rattle.kb_lemmas.proofs.Booleans.{and_gives_left, and_gives_right}
use Rattle.kb_term.specs.Signature.{Signature, Problem}
use Rattle.kb_laws.specs.Completion.{KbState, KbReaches, KbFollows, kb_start}
use Rattle.kb_label.specs.Names.{Name, has, is_beginning, bit_cmp}
use Rattle.mkb_model.specs.Plain.{Plain, state_of, ancestor}
use Rattle.mkb_model.specs.Journals.{Moment}
use Rattle.mkb_model.specs.Headline.{states_before, states_of, EachCompletes}
use Rattle.mkb_model.specs.Invariants.{AreApart}
use Rattle.mkb_model.proofs.Lists.{clash, find_in, find_none}
use Rattle.mkb_model.proofs.runs.Endings.{has_in, in_has}

-- ---- beginnings of names

bit_refl : (x : Bool) → is_eq (bit_cmp x x) ≡ true
bit_refl true = refl
bit_refl false = refl

bit_same : (x y : Bool) → is_eq (bit_cmp x y) ≡ true → x ≡ y
bit_same true true h = refl
bit_same false false h = refl
bit_same true false h = clash h refl
bit_same false true h = clash h refl

pub begins-refl : (p : Name) → is_beginning p p ≡ true
begins-refl [] = refl
begins-refl (x ∷ p) = and_from (is_eq (bit_cmp x x)) (is_beginning p p) (bit_refl x) (begins-refl p)

-- of two beginnings of one name, one begins the other
pub two_beginnings : (p q r : Name) → is_beginning p r ≡ true → is_beginning q r ≡ true → (is_beginning p q ≡ true) ⊎ (is_beginning q p ≡ true)
two_beginnings [] q r h k = inl refl
two_beginnings (x ∷ p) [] r h k = inr refl
two_beginnings (x ∷ p) (y ∷ q) [] h k = clash h refl
two_beginnings (x ∷ p) (y ∷ q) (z ∷ r) h k =
    let e = bit_same x z (and_gives_left (is_eq (bit_cmp x z)) (is_beginning p r) h) in
    let f = bit_same y z (and_gives_left (is_eq (bit_cmp y z)) (is_beginning q r) k) in
    let g : is_eq (bit_cmp x y) ≡ true = subst {A = Bool} (λ v. is_eq (bit_cmp x v) ≡ true) (e ∙ sym f) (bit_refl x) in
    let i : is_eq (bit_cmp y x) ≡ true = subst {A = Bool} (λ v. is_eq (bit_cmp y v) ≡ true) (f ∙ sym e) (bit_refl y) in
    ⊎_elim (λ j. inl (and_from (is_eq (bit_cmp x y)) (is_beginning p q) g j)) (λ j. inr (and_from (is_eq (bit_cmp y x)) (is_beginning q p) i j))
    (two_beginnings p q r (and_gives_right (is_eq (bit_cmp x z)) (is_beginning p r) h) (and_gives_right (is_eq (bit_cmp y z)) (is_beginning q r) k))

-- the living process that begins the name is its ancestor
pub ancestor_is : (b : Plain) (p q : Name) → AreApart b.living → has b.living p ≡ true → is_beginning p q ≡ true → ancestor b q ≡ p
ancestor_is b p q apart lives begins = go (find (λ x. is_beginning x q) b.living) refl
  where
    go : (o : Option Name) → find (λ x. is_beginning x q) b.living ≡ o → unwrap_or o q ≡ p
    go None e = clash begins (find_none (λ x. is_beginning x q) b.living e p (in_has b.living p lives))
    go (Some x) e =
        let f = find_in (λ x. is_beginning x q) b.living x e in
        let l = has_in b.living x f.0 in
        ⊎_elim (λ h. apart x p l lives h) (λ h. sym (apart p x lives l h)) (two_beginnings x p q f.1 begins)

-- ---- runs

-- each process of the later board has a living beginning on the earlier board, from whose state its own is reached
abbrev pub Simulates : Signature → Plain → Plain → Type 0
Simulates g b c = (q : Name) → has c.living q ≡ true → (p : Name) × (has b.living p ≡ true) × (is_beginning p q ≡ true) × KbReaches g (state_of b p) (state_of c q)

-- each entry does so
abbrev pub Simulating : Signature → List Moment → Plain → Type 0
Simulating g [] c = ⊤
Simulating g (m ∷ ms) c = Simulates g m.board c × AreApart m.board.living × Simulating g ms m.board

-- a name and its beginning that lives have the same past
same_past : (g : Signature) (ms : List Moment) (c : Plain) → Simulating g ms c → (p q : Name) → has c.living p ≡ true → is_beginning p q ≡ true → states_before ms q ≡ states_before ms p
same_past g [] c s p q lives begins = refl
same_past g (m ∷ ms) c (s, apart, rest) p q lives begins =
    let o = s p lives in
    let e : states_before ms q ≡ states_before ms o.0 = same_past g ms m.board rest o.0 q o.1 (begins-trans o.0 p q o.2 begins) in
    let f : states_before ms p ≡ states_before ms o.0 = same_past g ms m.board rest o.0 p o.1 o.2 in
    let h : ancestor m.board q ≡ o.0 = ancestor_is m.board o.0 q apart o.1 (begins-trans o.0 p q o.2 begins) in
    let k : ancestor m.board p ≡ o.0 = ancestor_is m.board o.0 p apart o.1 o.2 in
    ap₂ (λ (xs : List KbState) (a : Name). xs ++ state_of m.board a ∷ []) (e ∙ sym f) (h ∙ sym k)

follows_more : (g : Signature) (old : KbState) (xs : List KbState) (x y : KbState) → KbFollows g old (xs ++ x ∷ []) → KbReaches g x y → KbFollows g old ((xs ++ x ∷ []) ++ y ∷ [])
follows_more g old [] x y (h, f) k = (h, (k, tt))
follows_more g old (z ∷ xs) x y (h, f) k = (h, follows_more g z xs x y f k)

-- the states of each living process and its ancestors are a run, where the first one is
pub completes : (g : Signature) (start : KbState) (ms : List Moment) (c : Plain) → Simulating g ms c → AreApart c.living
    → ((first : Plain) → ms ≡ [] → (q : Name) → has c.living q ≡ true → KbReaches g start (state_of c q))
    → ((m : Moment) (past : List Moment) → ms ≡ m ∷ past → (q : Name) → has m.board.living q ≡ true → KbFollows g start (states_of past m.board q))
    → (q : Name) → has c.living q ≡ true → KbFollows g start (states_of ms c q)
completes g start [] c s apart opens later q lives = subst {A = Name} (λ z. KbReaches g start (state_of c z) × ⊤) (sym (ancestor_is c q q apart lives (begins-refl q))) (opens c refl q lives, tt)
completes g start (m ∷ ms) c (s, apart', rest) apart opens later q lives =
    let o = s q lives in
    let e : states_before ms q ≡ states_before ms o.0 = same_past g ms m.board rest o.0 q o.1 o.2 in
    let h : ancestor m.board q ≡ o.0 = ancestor_is m.board o.0 q apart' o.1 o.2 in
    let k : ancestor m.board o.0 ≡ o.0 = ancestor_is m.board o.0 o.0 apart' o.1 (begins-refl o.0) in
    let i : ancestor c q ≡ q = ancestor_is c q q apart lives (begins-refl q) in
    let f : KbFollows g start (states_before ms q ++ state_of m.board (ancestor m.board q) ∷ []) = subst {A = List KbState} (KbFollows g start) (ap₂ (λ (xs : List KbState) (a : Name). xs ++ state_of m.board a ∷ []) (sym e) (k ∙ sym h)) (later m ms refl o.0 o.1) in
    follows_more g start (states_before ms q) (state_of m.board (ancestor m.board q)) (state_of c (ancestor c q)) f
    (subst {A = Name} (λ z. KbReaches g (state_of m.board (ancestor m.board q)) (state_of c z)) (sym i) (subst {A = Name} (λ z. KbReaches g (state_of m.board z) (state_of c q)) (sym h) o.3))

-- the first board of the moments, or the last one where there are none
abbrev pub first_board : List Moment → Plain → Plain
first_board [] c = c
first_board (m ∷ ms) c = first_board ms m.board

-- where each entry simulates and the states of the first board are reached from the problem, each living process completes by itself
pub simulating_completes : (P : Problem) (ms : List Moment) (c : Plain) → Simulating P.signature ms c → AreApart c.living
    → ((q : Name) → has (first_board ms c).living q ≡ true → KbReaches P.signature (kb_start P) (state_of (first_board ms c) q)) → EachCompletes P ms c
simulating_completes P [] c s apart opens q lives = completes P.signature (kb_start P) [] c s apart (λ first e. opens) (λ m past e. absurd (cc)) q lives
simulating_completes P (m ∷ ms) c (s, apart', rest) apart opens q lives =
    completes P.signature (kb_start P) (m ∷ ms) c (s, apart', rest) apart (λ first e. absurd (cc))
    (λ x past e. subst {A = List Moment} (λ ys. (q : Name) → has (board_of ys).living q ≡ true → KbFollows P.signature (kb_start P) (states_of (past_of ys) (board_of ys) q)) e (simulating_completes P ms m.board rest apart' opens)) q lives
  where
    board_of : List Moment → Plain
    board_of [] = c
    board_of (x ∷ xs) = x.board

    past_of : List Moment → List Moment
    past_of [] = []
    past_of (x ∷ xs) = xs
