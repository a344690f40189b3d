-- The machine leads to the front of one token more.
use Rattle.std.proofs.Common.{◌≡◌, ◌⊎◌, inl, inr, ℕ, zero, List, [], ◌∷◌, ◌++◌, Bool, true, false, cond, Option, Some, None, refl, sym, ◌∙◌, ap, subst, append_assoc, option_map, option_and_then, codes, IsSome, IsFalse, flat_map, bytes_eq}
use Rattle.std.specs.List.{AllByRecursion}
use Rattle.std.proofs.lemmas.List.{append-nil}
use Rattle.std.proofs.lemmas.Option.{same_Some}
use Rattle.std.specs.Cmp.Lexicographic.{same_text}
use Rattle.kb_lemmas.proofs.Options.{some_of_map}
use Rattle.kb_text.specs.Names.{Name, is_among}
use Rattle.kb_text.specs.Tokens.{Token, arrow, equals, left_paren, right_paren, comma, identifier, end_of_input}
use Rattle.kb_text.specs.Grammar.{Written, alone, applied, Arguments, no_arguments, argument, Sign, by_arrow, by_equals, WrittenEquation, Section, variables, rules, skipped, IsSection, open_after, reserved_names, term_tokens, sign_token, equation_tokens, section_tokens, HasNext, name_tokens}
use Rattle.kb_text.specs.Fronts.{TermFront, whole, opened, within, EquationFront, in_left, behind_sign, in_right, SectionFront, begun, in_variables, in_rules, in_equation, in_skipped, Front, IsFrontOf, IsSectionFront, open_tokens, followed_tokens, term_front_tokens, equation_front_tokens, section_front_tokens}
use Rattle.kb_text.specs.Machine.{with_last, behind_argument, next_term, next_equation, next_front, next_section, next_rules, next_skipped, is_whole, sign_of, or_try, begin_term, whole_equation, section_named, open_at, closed_with}
use Rattle.kb_text.proofs.RunTexts.{open-append, then_open, is_some_is}
use Rattle.kb_text.proofs.Completed.{arguments-with_last, followed-with_last, flat_map-last, flat_map-sections, all-last, has_next_of_front}

-- the tokens of the second are those of the first and t
abbrev Longer : List Token → List Token → Token → Type 0
Longer old new t = new ≡ old ++ t ∷ []

behind_sound : (f : Name) (ts : Arguments) (w : Written) (v : TermFront) (t : Token) → behind_argument f (with_last ts w) t ≡ Some v → Longer (identifier f ∷ left_paren ∷ (followed_tokens ts ++ term_tokens w)) (term_front_tokens v) t
behind_sound f ts w v comma h = subst (λ (u : TermFront). Longer (identifier f ∷ left_paren ∷ (followed_tokens ts ++ term_tokens w)) (term_front_tokens u) comma) (same_Some (opened f (with_last ts w)) v h)
    (ap (λ (l : List Token). identifier f ∷ left_paren ∷ l) (followed-with_last ts w))
behind_sound f ts w v right_paren h = subst (λ (u : TermFront). Longer (identifier f ∷ left_paren ∷ (followed_tokens ts ++ term_tokens w)) (term_front_tokens u) right_paren) (same_Some (whole (applied f (with_last ts w))) v h)
    (ap (λ (l : List Token). identifier f ∷ left_paren ∷ (l ++ right_paren ∷ [])) (arguments-with_last ts w))
behind_sound f ts w v t h = absurd (cc)

pub term_sound : (u v : TermFront) (t : Token) → next_term u t ≡ Some v → Longer (term_front_tokens u) (term_front_tokens v) t
term_sound (whole (alone c)) v left_paren h = subst (λ (w : TermFront). Longer (term_front_tokens (whole (alone c))) (term_front_tokens w) left_paren) (same_Some (opened c no_arguments) v h) refl
term_sound (whole (alone c)) v t h = absurd (cc)
term_sound (whole (applied f ts)) v t h = absurd (cc)
term_sound (opened f ts) v (identifier c) h = subst (λ (w : TermFront). Longer (term_front_tokens (opened f ts)) (term_front_tokens w) (identifier c)) (same_Some (within f ts (whole (alone c))) v h) refl
term_sound (opened f no_arguments) v right_paren h = subst (λ (w : TermFront). Longer (term_front_tokens (opened f no_arguments)) (term_front_tokens w) right_paren) (same_Some (whole (applied f no_arguments)) v h) refl
term_sound (opened f (argument a us)) v right_paren h = absurd (cc)
term_sound (opened f ts) v t h = absurd (cc)
term_sound (within f ts (whole (alone c))) v left_paren h = subst (λ (w : TermFront). Longer (term_front_tokens (within f ts (whole (alone c)))) (term_front_tokens w) left_paren) (same_Some (within f ts (opened c no_arguments)) v h)
    (ap (λ (l : List Token). identifier f ∷ left_paren ∷ l) (sym (append_assoc (followed_tokens ts) (identifier c ∷ []) (left_paren ∷ []))))
term_sound (within f ts (whole (alone c))) v t h = behind_sound f ts (alone c) v t h
term_sound (within f ts (whole (applied g us))) v t h = behind_sound f ts (applied g us) v t h
term_sound (within f ts (opened g us)) v t h =
    let r = some_of_map (within f ts) (next_term (opened g us) t) v h in
    subst (λ (w : TermFront). Longer (term_front_tokens (within f ts (opened g us))) (term_front_tokens w) t) r.2
    (ap (λ (l : List Token). identifier f ∷ left_paren ∷ (followed_tokens ts ++ l)) (term_sound (opened g us) r.0 t r.1) ∙ ap (λ (l : List Token). identifier f ∷ left_paren ∷ l) (sym (append_assoc (followed_tokens ts) (term_front_tokens (opened g us)) (t ∷ []))))
term_sound (within f ts (within g us u)) v t h =
    let r = some_of_map (within f ts) (next_term (within g us u) t) v h in
    subst (λ (w : TermFront). Longer (term_front_tokens (within f ts (within g us u))) (term_front_tokens w) t) r.2
    (ap (λ (l : List Token). identifier f ∷ left_paren ∷ (followed_tokens ts ++ l)) (term_sound (within g us u) r.0 t r.1) ∙ ap (λ (l : List Token). identifier f ∷ left_paren ∷ l) (sym (append_assoc (followed_tokens ts) (term_front_tokens (within g us u)) (t ∷ []))))

-- ---- equations

or_some : {A : Type 0} (a b : Option A) (y : A) → or_try a b ≡ Some y → (a ≡ Some y) ⊎ (b ≡ Some y)
or_some None b y h = inr h
or_some (Some x) b y h = inl h

then_some : {A B : Type 0} (f : A → Option B) (o : Option A) (y : B) → option_and_then f o ≡ Some y → (x : A) × (o ≡ Some x) × (f x ≡ Some y)
then_some f None y h = absurd (cc)
then_some f (Some x) y h = (x, refl, h)

whole_is : (u : TermFront) (w : Written) → is_whole u ≡ Some w → u ≡ whole w
whole_is (whole t) w h = ap whole (same_Some t w h)
whole_is (opened f ts) w h = absurd (cc)
whole_is (within f ts t) w h = absurd (cc)

sign_is : (t : Token) (s : Sign) → sign_of t ≡ Some s → t ≡ sign_token s
sign_is arrow s h = ap sign_token (same_Some by_arrow s h)
sign_is equals s h = ap sign_token (same_Some by_equals s h)
sign_is t s h = absurd (cc)

begin_is : (t : Token) (u : TermFront) → begin_term t ≡ Some u → term_front_tokens u ≡ t ∷ []
begin_is (identifier c) u h = subst (λ (w : TermFront). term_front_tokens w ≡ identifier c ∷ []) (same_Some (whole (alone c)) u h) refl
begin_is t u h = absurd (cc)

pub equation_sound : (e g : EquationFront) (t : Token) → next_equation e t ≡ Some g → Longer (equation_front_tokens e) (equation_front_tokens g) t
equation_sound (in_left u) g t h = go (or_some (option_map in_left (next_term u t)) (option_and_then (λ l. option_map (behind_sign l) (sign_of t)) (is_whole u)) g h)
  where
    go : (option_map in_left (next_term u t) ≡ Some g) ⊎ (option_and_then (λ l. option_map (behind_sign l) (sign_of t)) (is_whole u) ≡ Some g) → Longer (term_front_tokens u) (equation_front_tokens g) t
    go (inl a) = let r = some_of_map in_left (next_term u t) g a in subst (λ (e : EquationFront). Longer (term_front_tokens u) (equation_front_tokens e) t) r.2 (term_sound u r.0 t r.1)
    go (inr a) =
        let r = then_some (λ l. option_map (behind_sign l) (sign_of t)) (is_whole u) g a in
        let q = some_of_map (behind_sign r.0) (sign_of t) g r.2 in
        subst (λ (e : EquationFront). Longer (term_front_tokens u) (equation_front_tokens e) t) q.2
        (ap (λ (v : TermFront). term_front_tokens v ++ sign_token q.0 ∷ []) (sym (whole_is u r.0 r.1)) ∙ ap (λ (x : Token). term_front_tokens u ++ x ∷ []) (sym (sign_is t q.0 q.1)))
equation_sound (behind_sign l s) g t h =
    let r = some_of_map (in_right l s) (begin_term t) g h in
    subst (λ (e : EquationFront). Longer (equation_front_tokens (behind_sign l s)) (equation_front_tokens e) t) r.2
    (ap (λ (x : List Token). term_tokens l ++ sign_token s ∷ x) (begin_is t r.0 r.1) ∙ sym (append_assoc (term_tokens l) (sign_token s ∷ []) (t ∷ [])))
equation_sound (in_right l s u) g t h =
    let r = some_of_map (in_right l s) (next_term u t) g h in
    subst (λ (e : EquationFront). Longer (equation_front_tokens (in_right l s u)) (equation_front_tokens e) t) r.2
    (ap (λ (x : List Token). term_tokens l ++ sign_token s ∷ x) (term_sound u r.0 t r.1) ∙ sym (append_assoc (term_tokens l) (sign_token s ∷ term_front_tokens u) (t ∷ [])))

pub whole_equation_is : (e : EquationFront) (w : WrittenEquation) → whole_equation e ≡ Some w → equation_front_tokens e ≡ equation_tokens w
whole_equation_is (in_left u) w h = absurd (cc)
whole_equation_is (behind_sign l s) w h = absurd (cc)
whole_equation_is (in_right l s u) w h =
    let r = some_of_map (λ (x : Written). record { left = l; sign = s; right = x }) (is_whole u) w h in
    ap (λ (v : TermFront). term_tokens l ++ sign_token s ∷ term_front_tokens v) (whole_is u r.0 r.1) ∙ ap equation_tokens r.2

-- ---- texts

module _ (ss : List Section) (valid : AllByRecursion IsSection ss) where
  abbrev sections : List Token
  sections = flat_map section_tokens ss

  to_open : (o : Option SectionFront) (s : SectionFront) (t : Token) (g : Front) → IsSectionFront (Some s) → Longer (open_tokens o) (section_front_tokens s) t → open_at ss (Some s) ≡ Some g → IsFrontOf ((sections ++ open_tokens o) ++ t ∷ []) g
  to_open o s t g k l h = subst (λ (f : Front). IsFrontOf ((sections ++ open_tokens o) ++ t ∷ []) f) (same_Some (record { sections = ss; open_section = Some s }) g h)
      (record { sections = valid; open_section = k; tokens_are = append_assoc sections (open_tokens o) (t ∷ []) ∙ ap (λ (x : List Token). sections ++ x) (sym l) })

  to_closed : (o : Option SectionFront) (w : Section) (t : Token) (g : Front) → IsSection w → Longer (open_tokens o) (section_tokens w) t → closed_with ss w ≡ Some g → IsFrontOf ((sections ++ open_tokens o) ++ t ∷ []) g
  to_closed o w t g k l h = subst (λ (f : Front). IsFrontOf ((sections ++ open_tokens o) ++ t ∷ []) f) (same_Some (record { sections = ss ++ w ∷ []; open_section = None }) g h)
      (record {
        sections = all-last ss w valid k;
        open_section = tt;
        tokens_are =
            append_assoc sections (open_tokens o) (t ∷ []) ∙ ap (λ (x : List Token). sections ++ x) (sym l ∙ sym (append-nil (section_tokens w))) ∙ sym (flat_map-sections ss (w ∷ [])) ∙ sym (append-nil (flat_map section_tokens (ss ++ w ∷ [])));
      })

  names-last : (xs : List Name) (x : Name) → name_tokens (xs ++ x ∷ []) ≡ name_tokens xs ++ identifier x ∷ []
  names-last [] x = refl
  names-last (y ∷ ys) x = ap (λ (l : List Token). identifier y ∷ l) (names-last ys x)

  named : (x : Name) (g : Front) → open_at ss (section_named x) ≡ Some g → IsFrontOf ((sections ++ left_paren ∷ []) ++ identifier x ∷ []) g
  named x g h = go (bytes_eq x (codes "VAR")) (bytes_eq x (codes "RULES")) (is_among reserved_names x) refl refl refl h
    where
      go : (a b c : Bool) → bytes_eq x (codes "VAR") ≡ a → bytes_eq x (codes "RULES") ≡ b → is_among reserved_names x ≡ c
          → open_at ss (cond a (Some (in_variables [])) (cond b (Some in_rules) (cond c None (Some (in_skipped x []))))) ≡ Some g → IsFrontOf ((sections ++ left_paren ∷ []) ++ identifier x ∷ []) g
      go true b c p q r h = to_open (Some begun) (in_variables []) (identifier x) g tt (ap (λ (y : Name). left_paren ∷ identifier y ∷ []) (sym (same_text x (codes "VAR") (sym p)))) h
      go false true c p q r h = to_open (Some begun) in_rules (identifier x) g tt (ap (λ (y : Name). left_paren ∷ identifier y ∷ []) (sym (same_text x (codes "RULES") (sym q)))) h
      go false false true p q r h = absurd (cc)
      go false false false p q r h = to_open (Some begun) (in_skipped x []) (identifier x) g (r, refl) refl h

  in_rules_sound : (es : List WrittenEquation) (e : EquationFront) (t : Token) (g : Front) (p : Option WrittenEquation) (q : Option EquationFront) → whole_equation e ≡ p → next_equation e t ≡ q
      → next_rules ss es e t p q ≡ Some g → IsFrontOf ((sections ++ section_front_tokens (in_equation es e)) ++ t ∷ []) g
  in_rules_sound es e t g p (Some d) k l h = to_open (Some (in_equation es e)) (in_equation es d) t g tt
      (ap (λ (x : List Token). left_paren ∷ identifier (codes "RULES") ∷ x) (ap (λ (x : List Token). flat_map equation_tokens es ++ x) (equation_sound e d t l) ∙ sym (append_assoc (flat_map equation_tokens es) (equation_front_tokens e) (t ∷ [])))) h
  in_rules_sound es e (identifier c) g (Some w) None k l h = to_open (Some (in_equation es e)) (in_equation (es ++ w ∷ []) (in_left (whole (alone c)))) (identifier c) g tt
      (ap (λ (x : List Token). left_paren ∷ identifier (codes "RULES") ∷ (x ++ identifier c ∷ [])) (flat_map-last es w ∙ ap (λ (x : List Token). flat_map equation_tokens es ++ x) (sym (whole_equation_is e w k)))) h
  in_rules_sound es e right_paren g (Some w) None k l h = to_closed (Some (in_equation es e)) (rules (es ++ w ∷ [])) right_paren g tt
      (ap (λ (x : List Token). left_paren ∷ identifier (codes "RULES") ∷ (x ++ right_paren ∷ [])) (flat_map-last es w ∙ ap (λ (x : List Token). flat_map equation_tokens es ++ x) (sym (whole_equation_is e w k)))) h
  in_rules_sound es e t g p None k l h = absurd (cc)

  skipped_sound : (x : Name) (ts : List Token) (t : Token) (g : Front) (n : ℕ) → IsFalse (is_among reserved_names x) → open_after 0 ts ≡ Some n → next_skipped ss x ts t (Some n) ≡ Some g → IsFrontOf ((sections ++ section_front_tokens (in_skipped x ts)) ++ t ∷ []) g
  skipped_sound x ts right_paren g zero r k h = to_closed (Some (in_skipped x ts)) (skipped x ts) right_paren g (r, k) refl h
  skipped_sound x ts end_of_input g n r k h = absurd (cc)
  skipped_sound x ts t g n r k h = to_open (Some (in_skipped x ts)) (in_skipped x (ts ++ t ∷ [])) t g (r, subst IsSome (sym (open-append ts 0 (t ∷ []) ∙ ap (λ (o : Option ℕ). then_open o (t ∷ [])) k)) refl) refl h

  open_sound : (o : Option SectionFront) (t : Token) (g : Front) → IsSectionFront o → next_section ss o t ≡ Some g → IsFrontOf ((sections ++ open_tokens o) ++ t ∷ []) g
  open_sound None left_paren g k h = to_open None begun left_paren g tt refl h
  open_sound None t g k h = absurd (cc)
  open_sound (Some begun) (identifier x) g k h = named x g h
  open_sound (Some begun) t g k h = absurd (cc)
  open_sound (Some (in_variables xs)) (identifier x) g k h = to_open (Some (in_variables xs)) (in_variables (xs ++ x ∷ [])) (identifier x) g tt (ap (λ (l : List Token). left_paren ∷ identifier (codes "VAR") ∷ l) (names-last xs x)) h
  open_sound (Some (in_variables xs)) right_paren g k h = to_closed (Some (in_variables xs)) (variables xs) right_paren g tt refl h
  open_sound (Some (in_variables xs)) t g k h = absurd (cc)
  open_sound (Some in_rules) (identifier x) g k h = to_open (Some in_rules) (in_equation [] (in_left (whole (alone x)))) (identifier x) g tt refl h
  open_sound (Some in_rules) right_paren g k h = to_closed (Some in_rules) (rules []) right_paren g tt refl h
  open_sound (Some in_rules) t g k h = absurd (cc)
  open_sound (Some (in_equation es e)) t g k h = in_rules_sound es e t g (whole_equation e) (next_equation e t) refl refl h
  open_sound (Some (in_skipped x ts)) t g k h = let r = is_some_is (open_after 0 ts) k.1 in skipped_sound x ts t g r.0 k.0 r.1 (ap (next_skipped ss x ts t) (sym r.1) ∙ h)

-- with one token more, the machine comes to its front
pub front_sound : (before : List Token) (f g : Front) (t : Token) → IsFrontOf before f → next_front f t ≡ Some g → IsFrontOf (before ++ t ∷ []) g
front_sound before f g t h k = subst (λ (l : List Token). IsFrontOf (l ++ t ∷ []) g) (sym h.tokens_are) (open_sound f.sections h.sections f.open_section t g h.open_section k)

-- what the machine takes, the grammar has
pub next_if_taken : (before : List Token) (f g : Front) (t : Token) → IsFrontOf before f → next_front f t ≡ Some g → HasNext before t
next_if_taken before f g t h k = has_next_of_front before t g (front_sound before f g t h k)
