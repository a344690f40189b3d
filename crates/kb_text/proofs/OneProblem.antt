-- Tokens are those of one text at most, and bytes spell one problem at most.
use Rattle.std.proofs.Common.{◌≡◌, ℕ, List, [], ◌∷◌, ◌++◌, refl, sym, ◌∙◌, ap, flat_map}
use Rattle.std.specs.List.{AllByRecursion}
use Rattle.kb_term.specs.Signature.{Problem}
use Rattle.kb_text.specs.Tokens.{Token, end_of_input}
use Rattle.kb_text.specs.Grammar.{Section, IsSection, section_tokens, text_tokens}
use Rattle.kb_text.specs.Fronts.{Front}
use Rattle.kb_text.specs.Problems.{Spells, problem_of}
use Rattle.kb_text.proofs.RunTexts.{closed_at, one_front}
use Rattle.std.proofs.lemmas.List.{append-nil}

-- what stands before a last token
without_last : (xs ys : List Token) (e : Token) → xs ++ e ∷ [] ≡ ys ++ e ∷ [] → xs ≡ ys
without_last [] [] e h = refl
without_last [] (y ∷ []) e h = absurd (cc)
without_last [] (y ∷ z ∷ ys) e h = absurd (cc)
without_last (x ∷ []) [] e h = absurd (cc)
without_last (x ∷ z ∷ xs) [] e h = absurd (cc)
without_last (x ∷ xs) (y ∷ ys) e h =
    let rest : xs ≡ ys = without_last xs ys e (let r : xs ++ e ∷ [] ≡ ys ++ e ∷ [] = cc in r) in
    let first : x ≡ y = cc in
    ap (λ (t : Token). t ∷ xs) first ∙ ap (λ (l : List Token). y ∷ l) rest

pub one_text : (ss us : List Section) → AllByRecursion IsSection ss → AllByRecursion IsSection us → text_tokens ss ≡ text_tokens us → ss ≡ us
one_text ss us h k e =
    let same = without_last (flat_map section_tokens ss) (flat_map section_tokens us) end_of_input e in
    ap (λ (f : Front). f.sections) (one_front (flat_map section_tokens ss) (closed_at ss) (closed_at us)
    (record { sections = h; open_section = tt; tokens_are = sym (append-nil (flat_map section_tokens ss)) })
    (record { sections = k; open_section = tt; tokens_are = same ∙ sym (append-nil (flat_map section_tokens us)) }))

-- at most one problem is spelled by given bytes
pub one_problem : (bytes : List ℕ) (p q : Problem) → Spells bytes p → Spells bytes q → p ≡ q
one_problem bytes p q h k = h.stands_for ∙ ap problem_of (one_text h.sections k.sections h.are_sections k.are_sections (sym h.tokens_are ∙ k.tokens_are)) ∙ sym k.stands_for
