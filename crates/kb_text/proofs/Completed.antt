-- Each front is the beginning of some text of the grammar, and the machine leads from front to front.
use Rattle.std.proofs.Common.{◌≡◌, ℕ, zero, suc, List, [], ◌∷◌, ◌++◌, Option, Some, None, refl, sym, ◌∙◌, ap, subst, append_assoc, codes, flat_map, replicate}
use Rattle.std.specs.List.{AllByRecursion}
use Rattle.std.proofs.lemmas.List.{append-nil}
use Rattle.kb_text.specs.Tokens.{Token, equals, left_paren, right_paren, comma, identifier, end_of_input}
use Rattle.kb_text.specs.Grammar.{Written, alone, applied, Arguments, no_arguments, argument, by_equals, WrittenEquation, Section, variables, rules, skipped, IsSection, open_after, term_tokens, argument_tokens, later_tokens, sign_token, equation_tokens, section_tokens, Derives, HasNext}
use Rattle.kb_text.specs.Fronts.{TermFront, whole, opened, within, EquationFront, in_left, behind_sign, in_right, SectionFront, begun, in_variables, in_rules, in_equation, in_skipped, Front, IsFrontOf, IsSectionFront, open_tokens, followed_tokens, term_front_tokens, equation_front_tokens, section_front_tokens}
use Rattle.kb_text.specs.Machine.{with_last}
use Rattle.kb_text.proofs.RunTexts.{open-append, then_open, is_some_is}

-- ---- arguments

later-with_last : (us : Arguments) (t : Written) → later_tokens (with_last us t) ≡ comma ∷ (followed_tokens us ++ term_tokens t)
later-with_last no_arguments t = ap (λ (l : List Token). comma ∷ l) (append-nil (term_tokens t))
later-with_last (argument u us) t = ap (λ (l : List Token). comma ∷ (term_tokens u ++ l)) (later-with_last us t) ∙ ap (λ (l : List Token). comma ∷ l) (sym (append_assoc (term_tokens u) (comma ∷ followed_tokens us) (term_tokens t)))

pub arguments-with_last : (us : Arguments) (t : Written) → argument_tokens (with_last us t) ≡ followed_tokens us ++ term_tokens t
arguments-with_last no_arguments t = append-nil (term_tokens t)
arguments-with_last (argument u us) t = ap (λ (l : List Token). term_tokens u ++ l) (later-with_last us t) ∙ sym (append_assoc (term_tokens u) (comma ∷ followed_tokens us) (term_tokens t))

pub followed-with_last : (us : Arguments) (t : Written) → followed_tokens (with_last us t) ≡ followed_tokens us ++ term_tokens t ++ comma ∷ []
followed-with_last no_arguments t = refl
followed-with_last (argument u us) t =
    ap (λ (l : List Token). term_tokens u ++ comma ∷ l) (followed-with_last us t)
    ∙ sym (append_assoc (term_tokens u) (comma ∷ (followed_tokens us ++ term_tokens t)) (comma ∷ []))
    ∙ ap (λ (l : List Token). l ++ comma ∷ []) (sym (append_assoc (term_tokens u) (comma ∷ followed_tokens us) (term_tokens t)))

-- ---- a front can be completed

abbrev pub some_term : Written
some_term = alone []

complete_term : (u : TermFront) → (t : Written) × (more : List Token) × (term_front_tokens u ++ more ≡ term_tokens t)
complete_term (whole t) = (t, [], append-nil (term_tokens t))
complete_term (opened f ts) = (
  applied f (with_last ts some_term),
  identifier [] ∷ right_paren ∷ [],
  ap (λ (l : List Token). identifier f ∷ left_paren ∷ l) (sym (append_assoc (followed_tokens ts) (identifier [] ∷ []) (right_paren ∷ [])) ∙ ap (λ (l : List Token). l ++ right_paren ∷ []) (sym (arguments-with_last ts some_term))),
)
complete_term (within f ts u) = let r = complete_term u in (
  applied f (with_last ts r.0),
  r.1 ++ right_paren ∷ [],
  ap (λ (l : List Token). identifier f ∷ left_paren ∷ l) (append_assoc (followed_tokens ts) (term_front_tokens u) (r.1 ++ right_paren ∷ [])
      ∙ ap (λ (l : List Token). followed_tokens ts ++ l) (sym (append_assoc (term_front_tokens u) r.1 (right_paren ∷ [])) ∙ ap (λ (l : List Token). l ++ right_paren ∷ []) r.2)
      ∙ sym (append_assoc (followed_tokens ts) (term_tokens r.0) (right_paren ∷ []))
      ∙ ap (λ (l : List Token). l ++ right_paren ∷ []) (sym (arguments-with_last ts r.0))),
)

complete_equation : (e : EquationFront) → (w : WrittenEquation) × (more : List Token) × (equation_front_tokens e ++ more ≡ equation_tokens w)
complete_equation (in_left u) = let r = complete_term u in (
  record { left = r.0; sign = by_equals; right = some_term },
  r.1 ++ equals ∷ identifier [] ∷ [],
  sym (append_assoc (term_front_tokens u) r.1 (equals ∷ identifier [] ∷ [])) ∙ ap (λ (l : List Token). l ++ equals ∷ identifier [] ∷ []) r.2,
)
complete_equation (behind_sign l s) = (record { left = l; sign = s; right = some_term }, identifier [] ∷ [], append_assoc (term_tokens l) (sign_token s ∷ []) (identifier [] ∷ []))
complete_equation (in_right l s u) = let r = complete_term u in (
  record { left = l; sign = s; right = r.0 },
  r.1,
  append_assoc (term_tokens l) (sign_token s ∷ term_front_tokens u) r.1 ∙ ap (λ (x : List Token). term_tokens l ++ sign_token s ∷ x) r.2,
)

close_all : (n : ℕ) → open_after n (replicate n right_paren) ≡ Some 0
close_all zero = refl
close_all (suc n) = close_all n

pub flat_map-last : (es : List WrittenEquation) (w : WrittenEquation) → flat_map equation_tokens (es ++ w ∷ []) ≡ flat_map equation_tokens es ++ equation_tokens w
flat_map-last [] w = append-nil (equation_tokens w)
flat_map-last (e ∷ es) w = ap (λ (l : List Token). equation_tokens e ++ l) (flat_map-last es w) ∙ sym (append_assoc (equation_tokens e) (flat_map equation_tokens es) (equation_tokens w))

pub flat_map-sections : (ss us : List Section) → flat_map section_tokens (ss ++ us) ≡ flat_map section_tokens ss ++ flat_map section_tokens us
flat_map-sections [] us = refl
flat_map-sections (s ∷ ss) us = ap (λ (l : List Token). section_tokens s ++ l) (flat_map-sections ss us) ∙ sym (append_assoc (section_tokens s) (flat_map section_tokens ss) (flat_map section_tokens us))

complete_section : (s : SectionFront) → IsSectionFront (Some s) → (w : Section) × (more : List Token) × IsSection w × (section_front_tokens s ++ more ≡ section_tokens w)
complete_section begun h = (rules [], identifier (codes "RULES") ∷ right_paren ∷ [], tt, refl)
complete_section (in_variables xs) h = (variables xs, right_paren ∷ [], tt, refl)
complete_section in_rules h = (rules [], right_paren ∷ [], tt, refl)
complete_section (in_equation es e) h = let r = complete_equation e in (
  rules (es ++ r.0 ∷ []),
  r.1 ++ right_paren ∷ [],
  tt,
  ap (λ (l : List Token). left_paren ∷ identifier (codes "RULES") ∷ l) (
      sym (append_assoc (flat_map equation_tokens es ++ equation_front_tokens e) r.1 (right_paren ∷ []))
      ∙ ap (λ (l : List Token). l ++ right_paren ∷ []) (append_assoc (flat_map equation_tokens es) (equation_front_tokens e) r.1 ∙ ap (λ (l : List Token). flat_map equation_tokens es ++ l) r.2 ∙ sym (flat_map-last es r.0))),
)
complete_section (in_skipped x ts) h = let r = is_some_is (open_after 0 ts) h.1 in (
  skipped x (ts ++ replicate r.0 right_paren),
  replicate r.0 right_paren ++ right_paren ∷ [],
  (h.0, open-append ts 0 (replicate r.0 right_paren) ∙ ap (λ (o : Option ℕ). then_open o (replicate r.0 right_paren)) r.1 ∙ close_all r.0),
  ap (λ (l : List Token). left_paren ∷ identifier x ∷ l) (sym (append_assoc ts (replicate r.0 right_paren) (right_paren ∷ []))),
)

pub all-last : (ss : List Section) (w : Section) → AllByRecursion IsSection ss → IsSection w → AllByRecursion IsSection (ss ++ w ∷ [])
all-last [] w h k = (k, tt)
all-last (s ∷ ss) w h k = (h.0, all-last ss w h.1 k)

-- each front begins some text of the grammar
pub completed : (before : List Token) (f : Front) → IsFrontOf before f → (more : List Token) × Derives (before ++ more)
completed before f h = go f.open_section h.open_section h.tokens_are
  where
    sections : List Token
    sections = flat_map section_tokens f.sections

    go : (o : Option SectionFront) → IsSectionFront o → before ≡ sections ++ open_tokens o → (more : List Token) × Derives (before ++ more)
    go None k e = (end_of_input ∷ [], (f.sections, h.sections, ap (λ (l : List Token). l ++ end_of_input ∷ []) (e ∙ append-nil sections)))
    go (Some s) k e = let r = complete_section s k in (
      r.1 ++ end_of_input ∷ [],
      (
        f.sections ++ r.0 ∷ [],
        all-last f.sections r.0 h.sections r.2,
        sym (append_assoc before r.1 (end_of_input ∷ []))
            ∙ ap (λ (l : List Token). l ++ end_of_input ∷ []) (ap (λ (l : List Token). l ++ r.1) e ∙ append_assoc sections (section_front_tokens s) r.1 ∙ ap (λ (l : List Token). sections ++ l) (r.3 ∙ sym (append-nil (section_tokens r.0))) ∙ sym (flat_map-sections f.sections (r.0 ∷ []))),
      ),
    )

-- the grammar has a token that leads to a front
pub has_next_of_front : (before : List Token) (t : Token) (g : Front) → IsFrontOf (before ++ t ∷ []) g → HasNext before t
has_next_of_front before t g h = let r = completed (before ++ t ∷ []) g h in (r.0, subst Derives (append_assoc before (t ∷ []) r.0) r.1)
