-- Joined texts, piece by piece.
use Rattle.std.proofs.Common.{ℕ, zero, suc, ◌+◌, ◌<◌, ◌≡◌, refl, sym, ap, ◌∙◌, arith, List, [], ◌∷◌, ◌++◌, length, map, take, get_or, append_assoc, All, true, IsTrue}
use Rattle.std.specs.Prelude.{Vec, nat_lt, nat_eq, ◌&&◌}
use Rattle.kb_term.specs.Pair.{distinct}
use Rattle.std.specs.List.{join_with_byte, list_all}
use Rattle.std.specs.declared.alloc.Global.{Global}
use Rattle.std.proofs.lemmas.Bool.{ltb-true, and_parts}
use Rattle.std.proofs.lemmas.List.{append-nil}
use Rattle.kb_term.specs.Signature.{Signature, SymbolEntry, HasName}
use Rattle.kb_term.specs.declared.term.Symbol.{Symbol}
use Rattle.kb_linear.specs.Limits.{interpretation_of}
use Rattle.kb_cert.specs.CertificateText.{each_behind, interp_text, name_at, is_precedence}

-- the first piece, and the others with the byte before them
pub join_with_byte-behind : (b : ℕ) (x : List ℕ) (xs : List (List ℕ)) → join_with_byte b (x ∷ xs) ≡ x ++ each_behind b xs
join_with_byte-behind b x [] = sym (append-nil x)
join_with_byte-behind b x (y ∷ xs) = ap (λ z. x ++ b ∷ z) (join_with_byte-behind b y xs)

-- one more piece behind its byte
pub each_behind_more : {X : Type 0} (b : ℕ) (v : X → List ℕ) (xs : List X) (k : ℕ) (x : X) → k < length xs → x ≡ get_or xs k x → each_behind b (map v (take (k + 1) xs)) ≡ (each_behind b (map v (take k xs)) ++ b ∷ []) ++ v x
each_behind_more b v [] k x h e = absurd (omega arith)
each_behind_more b v (y ∷ ys) zero x h e = ap (λ z. b ∷ z) (append-nil (v y)) ∙ ap (λ z. b ∷ v z) (sym e)
each_behind_more b v (y ∷ ys) (suc k) x h e =
    let n : suc k + 1 ≡ suc (k + 1) = omega arith in
    ap (λ z. each_behind b (map v (take z (y ∷ ys)))) n
    ∙ ap (λ z. b ∷ (v y ++ z)) (each_behind_more b v ys k x (omega arith) e)
    ∙ ap (b ∷◌) (sym (append_assoc (v y) (each_behind b (map v (take k ys)) ++ b ∷ []) (v x)) ∙ ap (λ z. z ++ v x) (sym (append_assoc (v y) (each_behind b (map v (take k ys))) (b ∷ []))))

-- what a row and a symbol of the program write
abbrev pub row_text : ℕ × Vec ℕ Global → List ℕ
row_text row = interp_text (row.0, row.1.items)

abbrev pub symbol_name : Signature → Symbol → List ℕ
symbol_name sig f = name_at (map (λ (e : SymbolEntry). e.name) sig) f.0

pub map_rows : (rows : List (ℕ × Vec ℕ Global)) → map row_text rows ≡ map interp_text (interpretation_of rows)
map_rows [] = refl
map_rows (row ∷ rows) = ap (row_text row ∷◌) (map_rows rows)

pub map_names : (names : List (List ℕ)) (symbols : List Symbol) → map (λ (f : Symbol). name_at names f.0) symbols ≡ map (name_at names) (map (λ (f : Symbol). f.0) symbols)
map_names names [] = refl
map_names names (f ∷ symbols) = ap (name_at names f.0 ∷◌) (map_names names symbols)

-- each symbol of a precedence is one of the signature
pub symbols_within : (sig : Signature) (symbols : List Symbol) → IsTrue (is_precedence sig (map (λ (f : Symbol). f.0) symbols)) → All (λ (f : Symbol). f.0 < length sig) symbols
symbols_within sig symbols h =
    let ns : List ℕ = map (λ (f : Symbol). f.0) symbols in
    let first = and_parts (nat_eq (length ns) (length sig) && nat_eq (length (distinct ns)) (length sig)) (list_all (λ f. nat_lt f (length sig)) ns) h in
    go symbols first.1
  where
    go : (symbols : List Symbol) → list_all (λ f. nat_lt f (length sig)) (map (λ (f : Symbol). f.0) symbols) ≡ true → All (λ (f : Symbol). f.0 < length sig) symbols
    go [] e k d p = absurd (omega arith)
    go (f ∷ symbols) e zero d p = ltb-true f.0 (length sig) (and_parts (nat_lt f.0 (length sig)) (list_all (λ f. nat_lt f (length sig)) (map (λ (f : Symbol). f.0) symbols)) e).0
    go (f ∷ symbols) e (suc k) d p = go symbols (and_parts (nat_lt f.0 (length sig)) (list_all (λ f. nat_lt f (length sig)) (map (λ (f : Symbol). f.0) symbols)) e).1 k d (omega arith)

-- a member that is read, whatever stands for a missing one
pub get_same : {X : Type 0} (xs : List X) (k : ℕ) (d : X) → k < length xs → get_or xs k d ≡ get_or xs k (get_or xs k d)
get_same [] k d h = absurd (omega arith)
get_same (x ∷ xs) zero d h = refl
get_same (x ∷ xs) (suc k) d h = get_same xs k d (omega arith)
