-- What a reader finds shown is what the table chooses.
use Rattle.std.proofs.Common.{◌≡◌, refl, ap, sym, ◌∙◌, arith, ℕ, ◌<◌, List, [], ◌∷◌, ◌++◌, Option, Some, None, Bool, true, false, cond, ◌&&◌, ◌||◌}
use Rattle.std.specs.Prelude.{not, option_and_then, nat_eq, nat_le, bytes_eq}
use Rattle.std.specs.List.{list_all}
use Rattle.std.proofs.lemmas.Option.{same_Some}
use Rattle.std.proofs.lemmas.Bool.{and_parts}
use Rattle.kb_text.specs.Names.{Name, is_among}
use Rattle.kb_text.specs.Tokens.{Token, left_paren, right_paren}
use Rattle.kb_text.specs.Grammar.{no_arguments, argument}
use Rattle.kb_text.specs.Starts.{mark_token}
use Rattle.kb_text.specs.Fronts.{TermFront, whole, opened, within, Front}
use Rattle.kb_text.specs.Problems.{arity_in}
use Rattle.kb_text.specs.Refusals.{shown, back, or_else, side_of, last_alone, ends_next, front_variables, front_uses, is_token, is_some_and, has_other_arity, ended_alone, closing_clash, alone_clash, closing_clash_of}
use Rattle.kb_text.specs.Machine.{best, kinds}
use Rattle.kb_syntax.specs.Looks.{Look, look_side, answer, end_row, mark_row}
use Rattle.kb_syntax.specs.Sides.{token_at}
use Rattle.kb_syntax.specs.Reader.{Stands, place_look, clash_row, applied_row, own_row, shown_row}
use Rattle.kb_text.specs.declared.kind.Kind.TheVariants.{VariableApplied, ArityClash}
use Rattle.kb_text.specs.declared.lexer.Form.{Form}
use Rattle.kb_text.specs.declared.lexer.Form.TheVariants.{Mark as MarkForm, Identifier, End}
use Rattle.kb_text.specs.declared.lexer.Mark.TheVariants.{ArrowEquals, Arrow, Equals, Bar, LeftParen, RightParen, Comma, Quotation}
use Rattle.kb_syntax.specs.declared.reader.Place.{Place}
use Rattle.kb_syntax.specs.declared.notes.Notes.{Notes}
use Rattle.kb_text.proofs.Firsts.{same_bytes}
use Rattle.kb_syntax.proofs.Known.{name-known, alone-known, closing-known}
use Rattle.kb_syntax.proofs.Rows.{first_of, own_kinds, AreBack, best-answer, end-rows, mark-rows}
use Rattle.kb_syntax.proofs.LookLaws.{side-look}
use Rattle.kb_syntax.proofs.FineTerms.{fine_end}
use Rattle.kb_syntax.proofs.Fine.{Fine, fine_use, side_fine}

-- no arity but 0 is known of a variable
variable_alone : (vars : List Name) (us : List (Name × ℕ)) → list_all (fine_use vars) us ≡ true → (x : Name) → is_among vars x ≡ true → has_other_arity us x 0 ≡ false
variable_alone vars [] h x k = refl
variable_alone vars (u ∷ us) h x k = go (bytes_eq x u.0) refl (variable_alone vars us (and_parts _ _ h).1 x k)
  where
    zero_use : x ≡ u.0 → not (nat_eq u.1 0) ≡ false
    zero_use e = by (is_among vars u.0) (nat_eq u.1 0) (ap (is_among vars) (sym e) ∙ k) (and_parts (nat_le u.1 8) (not (is_among vars u.0) || nat_eq u.1 0) (and_parts (fine_use vars u) (list_all (fine_use vars) us) h).0).1
      where
        by : (a b : Bool) → a ≡ true → (not a || b) ≡ true → not b ≡ false
        by true true p q = refl
        by true false p q = absurd (cc)
        by false b p q = absurd (cc)

    go : (b : Bool) → bytes_eq x u.0 ≡ b → has_other_arity us x 0 ≡ false → is_some_and (cond b (Some u.1) (arity_in us x)) (λ m. not (nat_eq m 0)) ≡ false
    go true e r = zero_use (same_bytes x u.0 e)
    go false e r = r

clash-known : (n : Notes) (p : Place) (f : Front) (t : Token) → Stands n p f → Fine f → clash_row n (look_side (place_look p)) t ≡ shown ArityClash f t
clash-known n p f t st fine = ap (λ (o : Option TermFront). clash_row n o t) (ap look_side st.place ∙ side-look f.open_section) ∙ go (side_of f.open_section) refl
  where
    none : (a b : Bool) → None ≡ or_else (cond a None None) (cond b None None)
    none true true = refl
    none true false = refl
    none false true = refl
    none false false = refl

    go : (o : Option TermFront) → side_of f.open_section ≡ o → clash_row n o t ≡ or_else (cond (is_token t right_paren) (closing_clash f o) None) (cond (is_token t left_paren) None (alone_clash f o))
    go None e = none (is_token t right_paren) (is_token t left_paren)
    go (Some u) e = (λ i. or_else
        (cond (is_token t right_paren) (sym (closing-known n p f st (last_alone u) (ends_next u) (λ a k. (fine_end (front_variables f) u 0 a (side_fine (front_variables f) f.open_section u fine.open_equation e) k).1)) i) None)
        (cond (is_token t left_paren) None (sym (alone-known n p f st (variable_alone (front_variables f) (front_uses f) fine.uses) u) i)))

applied-known : (n : Notes) (p : Place) (f : Front) (t : Token) → Stands n p f → back (applied_row n (look_side (place_look p)) t) 1 ≡ shown VariableApplied f t
applied-known n p f t st = ap (λ (o : Option TermFront). back (applied_row n o t) 1) (ap look_side st.place ∙ side-look f.open_section) ∙ go (side_of f.open_section)
  where
    no : (b : Bool) → None ≡ back (b && false) 1
    no true = refl
    no false = refl

    go : (o : Option TermFront) → back (applied_row n o t) 1 ≡ back (is_token t left_paren && is_some_and (option_and_then last_alone o) (is_among (front_variables f))) 1
    go None = no (is_token t left_paren)
    go (Some u) = ap (λ (vs : List Name). back (is_token t left_paren && is_some_and (last_alone u) (is_among vs)) 1) st.variables

own-known : (n : Notes) (p : Place) (f : Front) (form : Form) (name : List ℕ) → Stands n p f → own_row n (place_look p) (token_at form name) ≡ first_of own_kinds f (token_at form name)
own-known n p f Identifier name st = sym (name-known n p f st name)
own-known n p f End name st = (λ i. end_row (st.place i) (st.rules i)) ∙ sym (end-rows f.sections f.open_section)
own-known n p f (MarkForm ArrowEquals) name st = ap (λ (l : Look). mark_row l (mark_token ArrowEquals)) st.place ∙ sym (mark-rows f.sections f.open_section (mark_token ArrowEquals) tt)
own-known n p f (MarkForm Arrow) name st = ap (λ (l : Look). mark_row l (mark_token Arrow)) st.place ∙ sym (mark-rows f.sections f.open_section (mark_token Arrow) tt)
own-known n p f (MarkForm Equals) name st = ap (λ (l : Look). mark_row l (mark_token Equals)) st.place ∙ sym (mark-rows f.sections f.open_section (mark_token Equals) tt)
own-known n p f (MarkForm Bar) name st = ap (λ (l : Look). mark_row l (mark_token Bar)) st.place ∙ sym (mark-rows f.sections f.open_section (mark_token Bar) tt)
own-known n p f (MarkForm LeftParen) name st = ap (λ (l : Look). mark_row l (mark_token LeftParen)) st.place ∙ sym (mark-rows f.sections f.open_section (mark_token LeftParen) tt)
own-known n p f (MarkForm RightParen) name st = ap (λ (l : Look). mark_row l (mark_token RightParen)) st.place ∙ sym (mark-rows f.sections f.open_section (mark_token RightParen) tt)
own-known n p f (MarkForm Comma) name st = ap (λ (l : Look). mark_row l (mark_token Comma)) st.place ∙ sym (mark-rows f.sections f.open_section (mark_token Comma) tt)
own-known n p f (MarkForm Quotation) name st = ap (λ (l : Look). mark_row l (mark_token Quotation)) st.place ∙ sym (mark-rows f.sections f.open_section (mark_token Quotation) tt)

-- ---- the two rows whose place is before the token

end_some : (u : TermFront) (a : Name × ℕ × ℕ) → ends_next u ≡ Some a → 0 < a.2
end_some (whole t) a e = absurd (cc)
end_some (opened f no_arguments) a e = omega (arith, ap (λ (x : Name × ℕ × ℕ). x.2) (same_Some (f, 0, 2) a e))
end_some (opened f (argument t ts)) a e = absurd (cc)
end_some (within f ts (whole t)) a e = omega (arith, ap (λ (x : Name × ℕ × ℕ). x.2) (same_Some _ a e))
end_some (within f ts (opened g us)) a e = end_some (opened g us) a e
end_some (within f ts (within g us u)) a e = end_some (within g us u) a e

back_some : (b : Bool) (k m : ℕ) → back b k ≡ Some m → (b ≡ true) × (k ≡ m)
back_some true k m e = (refl, same_Some k m e)
back_some false k m e = absurd (cc)

or_some : (a b : Option ℕ) (k : ℕ) → ((k : ℕ) → a ≡ Some k → 0 < k) → ((k : ℕ) → b ≡ Some k → 0 < k) → or_else a b ≡ Some k → 0 < k
or_some None b k p q e = q k e
or_some (Some a) b k p q e = p k e

cond_some : (c : Bool) (a : Option ℕ) → ((k : ℕ) → a ≡ Some k → 0 < k) → ((k : ℕ) → cond c a None ≡ Some k → 0 < k) × ((k : ℕ) → cond c None a ≡ Some k → 0 < k)
cond_some true a h = (h, λ k e. absurd (cc))
cond_some false a h = ((λ k e. absurd (cc)), h)

closing_some : (f : Front) (o : Option TermFront) (k : ℕ) → closing_clash f o ≡ Some k → 0 < k
closing_some f None k e = absurd (cc)
closing_some f (Some u) k e = go (ends_next u) refl e
  where
    go : (a : Option (Name × ℕ × ℕ)) → ends_next u ≡ a → closing_clash_of (front_uses f ++ ended_alone (last_alone u)) a ≡ Some k → 0 < k
    go None p e = absurd (cc)
    go (Some a) p e = omega (arith, end_some u a p, (back_some _ a.2 k e).1)

alone_some : (f : Front) (o : Option TermFront) (k : ℕ) → alone_clash f o ≡ Some k → 0 < k
alone_some f None k e = absurd (cc)
alone_some f (Some u) k e = omega (arith, (back_some _ 1 k e).1)

are_back : (f : Front) (t : Token) → AreBack (shown ArityClash f t) (shown VariableApplied f t)
are_back f t = record {
  clash_back = λ k e. or_some _ _ k ((cond_some (is_token t right_paren) (closing_clash f (side_of f.open_section)) (closing_some f (side_of f.open_section))).0) ((cond_some (is_token t left_paren) (alone_clash f (side_of f.open_section)) (alone_some f (side_of f.open_section))).1) e;
  applied_back = λ k e. omega (arith, (back_some _ 1 k e).1);
  one = λ k m e q. apart t (is_left t _ (back_some _ 1 m q).0) e;
}
  where
    is_left : (t : Token) (b : Bool) → (is_token t left_paren && b) ≡ true → t ≡ left_paren
    is_left left_paren b e = refl
    is_left t b e = absurd (cc)

    apart : {k : ℕ} (t : Token) → t ≡ left_paren → shown ArityClash f t ≡ Some k → ⊥
    apart {k} t e h = let none : shown ArityClash f left_paren ≡ Some k = ap (λ (u : Token). shown ArityClash f u) (sym e) ∙ h in cc

same_clash : (n : Notes) (o : Option TermFront) (form : Form) (name : List ℕ) → clash_row n o (token_at form []) ≡ clash_row n o (token_at form name)
same_clash n None form name = refl
same_clash n (Some u) (MarkForm m) name = refl
same_clash n (Some u) Identifier name = refl
same_clash n (Some u) End name = refl

same_applied : (n : Notes) (o : Option TermFront) (form : Form) (name : List ℕ) → applied_row n o (token_at form []) ≡ applied_row n o (token_at form name)
same_applied n None form name = refl
same_applied n (Some u) (MarkForm m) name = refl
same_applied n (Some u) Identifier name = refl
same_applied n (Some u) End name = refl

-- what a reader finds shown
pub shown-known : (n : Notes) (p : Place) (f : Front) (form : Form) (name : List ℕ) → Stands n p f → Fine f
    → shown_row n (place_look p) form name ≡ best None kinds f (token_at form name)
shown-known n p f form name st fine =
    (λ i. answer ((same_clash n (look_side (place_look p)) form name ∙ clash-known n p f (token_at form name) st fine) i) ((ap (λ (b : Bool). back b 1) (same_applied n (look_side (place_look p)) form name) ∙ applied-known n p f (token_at form name) st) i) (own-known n p f form name st i))
    ∙ sym (best-answer f (token_at form name) _ _ refl refl (are_back f (token_at form name)))
