-- The steps of reading.
use Rattle.std.proofs.Common.{ℕ, ◌-◌, ◌≤◌, ◌<◌, ◌≡◌, ap, ◌∙◌, arith, List, [], ◌∷◌, ◌++◌, length, map, append_assoc, Bool, true, false}
use Rattle.std.specs.Prelude.{decimal}
use Rattle.kb_term.specs.Signature.{Signature, IsSignature}
use Rattle.kb_term.specs.declared.term.Symbol.{Symbol}
use Rattle.kb_cert.specs.CertificateText.{names_of, name_at}
use Rattle.kb_cert.specs.Reading.{IsFree, IsFieldEnd, AreNames, SpellsNames, AreNumbers, SpellsNumbers}
use Rattle.kb_cert.proofs.Fields.{pieces_more, pieces_less, names_free, number_free}

pub names_step : (sig : Signature) (count : ℕ) (text field rest : List ℕ) (old now new : List Symbol) (f : Symbol) (found : Bool) → IsSignature sig → IsFieldEnd 32 field rest → text ≡ 32 ∷ (field ++ rest) → 0 < count → (f.0 < length sig) × (name_at (names_of sig) f.0 ≡ field) → now ≡ old ++ f ∷ []
    → SpellsNames sig (count - 1) rest now new found → SpellsNames sig count text old new found
names_step sig count text field rest old now new f true s e t c w n (more, d, a) =
    (f ∷ more, d ∙ ap (λ z. z ++ more) n ∙ append_assoc old (f ∷ []) more, pieces_more 32 (name_at (names_of sig)) (λ g. g < length sig) count text field rest f.0 (map (λ (g : Symbol). g.0) more) t w.1 w.0 c a)
names_step sig count text field rest old now new f false s e t c w n h = λ symbols a.
    let r = pieces_less 32 (name_at (names_of sig)) (λ g. g < length sig) count text field rest symbols (names_free sig s) e t c a in
    h r.3 r.4

pub names_none : (sig : Signature) (count : ℕ) (text field rest : List ℕ) → IsSignature sig → IsFieldEnd 32 field rest → text ≡ 32 ∷ (field ++ rest) → 0 < count → ((f : ℕ) → f < length sig → ¬ (name_at (names_of sig) f ≡ field)) → (symbols : List ℕ) → ¬ AreNames sig count text symbols
names_none sig count text field rest s e t c n symbols a =
    let r = pieces_less 32 (name_at (names_of sig)) (λ g. g < length sig) count text field rest symbols (names_free sig s) e t c a in
    n r.0 r.1 r.2

positive_free : (most n : ℕ) → most ≤ 15 → (1 ≤ n) × (n ≤ most) → IsFree 44 (decimal n)
positive_free most n m h = number_free 44 n (omega arith) (let q = h.1 in omega arith)

pub numbers_step : (most count : ℕ) (text field rest old now new : List ℕ) (n : ℕ) (found : Bool) → most ≤ 15 → IsFieldEnd 44 field rest → text ≡ 44 ∷ (field ++ rest) → 0 < count → ((1 ≤ n) × (n ≤ most)) × (decimal n ≡ field) → now ≡ old ++ n ∷ []
    → SpellsNumbers most (count - 1) rest now new found → SpellsNumbers most count text old new found
numbers_step most count text field rest old now new n true m e t c w d (more, p, a) =
    (n ∷ more, p ∙ ap (λ z. z ++ more) d ∙ append_assoc old (n ∷ []) more, pieces_more 44 decimal (λ n. (1 ≤ n) × (n ≤ most)) count text field rest n more t w.1 w.0 c a)
numbers_step most count text field rest old now new n false m e t c w d h = λ numbers a.
    let r = pieces_less 44 decimal (λ n. (1 ≤ n) × (n ≤ most)) count text field rest numbers (λ n. positive_free most n m) e t c a in
    h r.3 r.4

pub numbers_none : (most count : ℕ) (text field rest : List ℕ) → most ≤ 15 → IsFieldEnd 44 field rest → text ≡ 44 ∷ (field ++ rest) → 0 < count → ((n : ℕ) → (1 ≤ n) × (n ≤ most) → ¬ (decimal n ≡ field)) → (numbers : List ℕ) → ¬ AreNumbers most count text numbers
numbers_none most count text field rest m e t c n numbers a =
    let r = pieces_less 44 decimal (λ n. (1 ≤ n) × (n ≤ most)) count text field rest numbers (λ n. positive_free most n m) e t c a in
    n r.0 r.1 r.2
