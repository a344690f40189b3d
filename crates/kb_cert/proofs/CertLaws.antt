-- A certificate by the first word of its text.
use Rattle.std.proofs.Common.{ℕ, zero, suc, ◌≡◌, refl, sym, ap, ap₂, ◌∙◌, subst, arith, List, [], ◌∷◌, ◌++◌, length, map, take, drop, get_or, take-append-drop, true}
use Rattle.std.specs.Prelude.{Option, Some, None, MatchOption, codes, nat_eq}
use Rattle.std.specs.Cmp.Lexicographic.{same_text}
use lib.Pointwise.{pointwise}
use Rattle.kb_term.specs.Signature.{Signature}
use Rattle.kb_cert.specs.CertificateText.{each_behind, names_of, name_at, interp_text, CertSpelled, weight_fields}
use Rattle.kb_cert.specs.Reading.{IsPrecedenceText, AreRows, IsOrderText}
use Rattle.kb_kbo.specs.KnuthBendix.{KboOrder}
use Rattle.kb_cert.specs.declared.certificate.Certificate.{Certificate}
use Rattle.kb_cert.specs.declared.certificate.Certificate.TheVariants.{Lpo, Linear, Kbo}
use Rattle.kb_cert.proofs.Texts.{join_with_byte-behind}

-- a text that begins with a word
pub begins : (line word text : List ℕ) → pointwise nat_eq (take (length word) line) word ≡ true → text ≡ drop (length word) line → line ≡ word ++ text
begins line word text e d = sym (take-append-drop (length word) line) ∙ ap₂ (λ x y. x ++ y) (same_text (take (length word) line) word (sym e)) (sym d)

after : (n : ℕ) (word xs ys : List ℕ) → n ≡ length word → word ++ xs ≡ word ++ ys → xs ≡ ys
after n [] xs ys l e = e
after zero (w ∷ word) xs ys l e = absurd (omega arith)
after (suc n) (w ∷ word) xs ys l e = after n word xs ys (omega arith) (ap (drop 1) e)

lpo_text : (sig : Signature) (symbols line : List ℕ) → CertSpelled sig line (Lpo symbols) → line ≡ codes "LPO" ++ each_behind 32 (map (name_at (names_of sig)) symbols)
lpo_text sig symbols line s = s.1 ∙ join_with_byte-behind 32 (codes "LPO") (map (name_at (names_of sig)) symbols)

linear_text : (sig : Signature) (rows : List (ℕ × List ℕ)) (line : List ℕ) → CertSpelled sig line (Linear rows) → line ≡ codes "LINEAR" ++ each_behind 32 (map interp_text rows)
linear_text sig rows line s = s.1 ∙ join_with_byte-behind 32 (codes "LINEAR") (map interp_text rows)

-- the fields behind the word
abbrev order_fields : Signature → KboOrder → List (List ℕ)
order_fields sig order = weight_fields order.weights ++ map (name_at (names_of sig)) order.precedence

kbo_text : (sig : Signature) (order : KboOrder) (line : List ℕ) → CertSpelled sig line (Kbo order) → line ≡ codes "KBO" ++ each_behind 32 (order_fields sig order)
kbo_text sig order line s = s.1 ∙ join_with_byte-behind 32 (codes "KBO") (order_fields sig order)

-- the first byte tells the third word from the others
lpo_or_kbo : (line xs ys : List ℕ) → line ≡ codes "LPO" ++ xs → ¬ (line ≡ codes "KBO" ++ ys)
lpo_or_kbo line xs ys e d = let p = ap (λ z. get_or z 0 0) e in let q = ap (λ z. get_or z 0 0) d in omega arith

linear_or_kbo : (line xs ys : List ℕ) → line ≡ codes "LINEAR" ++ xs → ¬ (line ≡ codes "KBO" ++ ys)
linear_or_kbo line xs ys e d = let p = ap (λ z. get_or z 0 0) e in let q = ap (λ z. get_or z 0 0) d in omega arith

-- the second byte tells the words apart
two_words : (line xs ys : List ℕ) → line ≡ codes "LPO" ++ xs → ¬ (line ≡ codes "LINEAR" ++ ys)
two_words line xs ys e d = let p = ap (λ z. get_or z 1 0) e in let q = ap (λ z. get_or z 1 0) d in omega arith

pub lpo_read : (sig : Signature) (line text : List ℕ) (read : Option (List ℕ)) (symbols : List ℕ) → line ≡ codes "LPO" ++ text → read ≡ Some symbols → MatchOption read ((symbols : List ℕ) → ¬ IsPrecedenceText sig text symbols) (IsPrecedenceText sig text) → CertSpelled sig line (Lpo symbols)
lpo_read sig line text read symbols e r h =
    let p = subst (λ z. MatchOption z ((symbols : List ℕ) → ¬ IsPrecedenceText sig text symbols) (IsPrecedenceText sig text)) r h in
    (p.precedence_is, e ∙ ap (λ z. codes "LPO" ++ z) (sym p.spelling) ∙ sym (join_with_byte-behind 32 (codes "LPO") (map (name_at (names_of sig)) symbols)))

pub lpo_unread : (sig : Signature) (line text : List ℕ) (read : Option (List ℕ)) → line ≡ codes "LPO" ++ text → read ≡ None → MatchOption read ((symbols : List ℕ) → ¬ IsPrecedenceText sig text symbols) (IsPrecedenceText sig text) → (c : Certificate) → ¬ CertSpelled sig line c
lpo_unread sig line text read e r h (Lpo symbols) s =
    let n = subst (λ z. MatchOption z ((symbols : List ℕ) → ¬ IsPrecedenceText sig text symbols) (IsPrecedenceText sig text)) r h in
    n symbols (record { precedence_is = s.0; spelling = sym (after 3 (codes "LPO") text (each_behind 32 (map (name_at (names_of sig)) symbols)) refl (sym e ∙ lpo_text sig symbols line s)) })
lpo_unread sig line text read e r h (Linear rows) s = two_words line text (each_behind 32 (map interp_text rows)) e (linear_text sig rows line s)
lpo_unread sig line text read e r h (Kbo order) s = lpo_or_kbo line text (each_behind 32 (order_fields sig order)) e (kbo_text sig order line s)

pub linear_read : (sig : Signature) (line text : List ℕ) (read : Option (List (ℕ × List ℕ))) (rows : List (ℕ × List ℕ)) → line ≡ codes "LINEAR" ++ text → read ≡ Some rows → MatchOption read ((rows : List (ℕ × List ℕ)) → ¬ AreRows sig text rows) (AreRows sig text) → CertSpelled sig line (Linear rows)
linear_read sig line text read rows e r h =
    let p = subst (λ z. MatchOption z ((rows : List (ℕ × List ℕ)) → ¬ AreRows sig text rows) (AreRows sig text)) r h in
    (p.rows_are, e ∙ ap (λ z. codes "LINEAR" ++ z) (sym p.spelling) ∙ sym (join_with_byte-behind 32 (codes "LINEAR") (map interp_text rows)))

pub linear_unread : (sig : Signature) (line text : List ℕ) (read : Option (List (ℕ × List ℕ))) → line ≡ codes "LINEAR" ++ text → read ≡ None → MatchOption read ((rows : List (ℕ × List ℕ)) → ¬ AreRows sig text rows) (AreRows sig text) → (c : Certificate) → ¬ CertSpelled sig line c
linear_unread sig line text read e r h (Lpo symbols) s = two_words line (each_behind 32 (map (name_at (names_of sig)) symbols)) text (lpo_text sig symbols line s) e
linear_unread sig line text read e r h (Linear rows) s =
    let n = subst (λ z. MatchOption z ((rows : List (ℕ × List ℕ)) → ¬ AreRows sig text rows) (AreRows sig text)) r h in
    n rows (record { rows_are = s.0; spelling = sym (after 6 (codes "LINEAR") text (each_behind 32 (map interp_text rows)) refl (sym e ∙ linear_text sig rows line s)) })
linear_unread sig line text read e r h (Kbo order) s = linear_or_kbo line text (each_behind 32 (order_fields sig order)) e (kbo_text sig order line s)

pub kbo_read : (sig : Signature) (line text : List ℕ) (read : Option KboOrder) (order : KboOrder) → line ≡ codes "KBO" ++ text → read ≡ Some order → MatchOption read ((order : KboOrder) → ¬ IsOrderText sig text order) (IsOrderText sig text) → CertSpelled sig line (Kbo order)
kbo_read sig line text read order e r h =
    let p = subst (λ z. MatchOption z ((order : KboOrder) → ¬ IsOrderText sig text order) (IsOrderText sig text)) r h in
    (p.order_is, e ∙ ap (λ z. codes "KBO" ++ z) (sym p.spelling) ∙ sym (join_with_byte-behind 32 (codes "KBO") (order_fields sig order)))

pub kbo_unread : (sig : Signature) (line text : List ℕ) (read : Option KboOrder) → line ≡ codes "KBO" ++ text → read ≡ None → MatchOption read ((order : KboOrder) → ¬ IsOrderText sig text order) (IsOrderText sig text) → (c : Certificate) → ¬ CertSpelled sig line c
kbo_unread sig line text read e r h (Lpo symbols) s = lpo_or_kbo line (each_behind 32 (map (name_at (names_of sig)) symbols)) text (lpo_text sig symbols line s) e
kbo_unread sig line text read e r h (Linear rows) s = linear_or_kbo line (each_behind 32 (map interp_text rows)) text (linear_text sig rows line s) e
kbo_unread sig line text read e r h (Kbo order) s =
    let n = subst (λ z. MatchOption z ((order : KboOrder) → ¬ IsOrderText sig text order) (IsOrderText sig text)) r h in
    n order (record { order_is = s.0; spelling = sym (after 3 (codes "KBO") text (each_behind 32 (order_fields sig order)) refl (sym e ∙ kbo_text sig order line s)) })
