-- What a reader keeps stands for the next front.
use Rattle.std.proofs.Common.{append-nil, append_assoc, ◌≡◌, refl, ap, sym, ◌∙◌, subst, ⊎_elim, arith, ℕ, zero, ◌+◌, List, [], ◌∷◌, ◌++◌, Option, Some, None, Bool, true, false, cond, ◌||◌, length, length-append}
use Rattle.std.specs.Prelude.{not, map, option_map, is_some, bytes_eq, codes}
use Rattle.std.specs.List.{list_any}
use Rattle.std.proofs.lemmas.Option.{same_Some}
use Rattle.std.proofs.lemmas.List.Elements.{filter-append}
use Rattle.kb_text.proofs.RewrittenLists.{among-append}
use Rattle.kb_lemmas.proofs.Options.{some_of_map}
use Rattle.kb_text.specs.Names.{Name, is_among, firsts, with_name}
use Rattle.kb_text.specs.Tokens.{Token, arrow, equals, left_paren, right_paren, identifier, end_of_input}
use Rattle.kb_text.specs.Grammar.{alone, Section, WrittenEquation, Sign, open_after, reserved_names, rules, skipped, variables}
use Rattle.kb_text.specs.Fronts.{TermFront, whole, opened, within, EquationFront, in_left, behind_sign, in_right, SectionFront, begun, in_variables, in_rules, in_equation, in_skipped, Front}
use Rattle.kb_text.specs.Problems.{all_names, names_in, arity_in, equations_of, variables_among, symbols_among, is_rules}
use Rattle.kb_text.specs.Refusals.{Spot, spot_of, equation_spot, equation_names, names_in_front, open_names, is_in_variables, front_variables, front_names, front_uses, open_parens, new_equation}
use Rattle.kb_text.specs.Machine.{next_front, next_section, next_equation, next_term, next_rules, next_skipped, whole_equation, sign_of, section_named, open_at}
use Rattle.kb_syntax.specs.Moves.{names_of_token, names_at, new_names, new_variables, new_uses, open_equations, equation_names_of, side_names, side_names_of}
use Rattle.kb_syntax.specs.Looks.{Look, look_of, at_equation, spot_at, next_look, added_variables, added_equations, ends_rules, added_uses, with_use, with_uses, with_names}
use Rattle.kb_syntax.specs.Reader.{Stands, place_look, name_notes, use_notes, prepared, is_sign, resets, IsPassed}
use Rattle.kb_syntax.specs.Written.{equation_of}
use Rattle.kb_syntax.specs.declared.reader.Place.{Place}
use Rattle.kb_syntax.specs.declared.notes.Notes.{Notes}
use Rattle.kb_syntax.proofs.Fine.{Fine, Unshown}
use Rattle.kb_syntax.proofs.FineLists.{no-equations}
use Rattle.kb_syntax.proofs.Known.{arity-append}
use Rattle.kb_text.proofs.Firsts.{same_bytes}
use Rattle.kb_syntax.proofs.WrittenArguments.{with_name-firsts}
use Rattle.kb_syntax.proofs.LookLaws.{front_look, HasDepth, next-look, variables-look, equations-look, rules-ended-look, uses-look}
use Rattle.kb_syntax.proofs.Rows.{IsSameSpot, spot-look}
use Rattle.kb_syntax.proofs.MoveSections.{Move, section_moves, left_next, awaits_if_name, is_whole_is, whole_stops}
use Rattle.kb_syntax.proofs.SideLaws.{no_term_token}
use Rattle.kb_syntax.proofs.MoveTerms.{term_names}

-- ---- lists

-- names that aren't there yet go to the end
with_names-new : (names : List Name) (t : Token) → ((c : Name) → t ≡ identifier c → is_among names c ≡ false) → with_names names (names_of_token t) ≡ names ++ names_of_token t
with_names-new names (identifier c) h = ap (λ (b : Bool). cond b names (names ++ c ∷ [])) (h c refl)
with_names-new names t h = sym (append-nil names)

-- one more use
use_known : (vars : List Name) (mine all : List (Name × ℕ)) (u : Name × ℕ) → ((x : Name) → is_among vars x ≡ false → arity_in mine x ≡ arity_in all x) → (x : Name) → is_among vars x ≡ false → arity_in (with_use vars mine u) x ≡ arity_in (all ++ u ∷ []) x
use_known vars mine all u h x k = go (is_among vars u.0) refl (arity_in mine u.0) refl (bytes_eq x u.0) refl ∙ sym (arity-append all (u ∷ []) x)
  where
    mine_at : (o : Option ℕ) → arity_in mine x ≡ o → o ≡ cond (is_some o) o (arity_in (u ∷ []) x) → arity_in mine x ≡ cond (is_some (arity_in all x)) (arity_in all x) (arity_in (u ∷ []) x)
    mine_at o e q = e ∙ q ∙ (λ i. cond (is_some ((sym e ∙ h x k) i)) ((sym e ∙ h x k) i) (arity_in (u ∷ []) x))

    other : bytes_eq x u.0 ≡ false → (o : Option ℕ) → o ≡ cond (is_some o) o (arity_in (u ∷ []) x)
    other e None = sym (ap (λ (b : Bool). cond b (Some u.1) None) e)
    other e (Some n) = refl

    same : bytes_eq x u.0 ≡ true → x ≡ u.0
    same e = same_bytes x u.0 e

    some : (o : Option ℕ) → is_some o ≡ true → o ≡ cond (is_some o) o (arity_in (u ∷ []) x)
    some None e = absurd (cc)
    some (Some n) e = refl

    go : (v : Bool) → is_among vars u.0 ≡ v → (o : Option ℕ) → arity_in mine u.0 ≡ o → (b : Bool) → bytes_eq x u.0 ≡ b
        → arity_in (cond v mine (cond (is_some (arity_in mine u.0)) mine (mine ++ u ∷ []))) x ≡ cond (is_some (arity_in all x)) (arity_in all x) (arity_in (u ∷ []) x)
    go true p o q true e = absurd (true_false (ap (is_among vars) (same e) ∙ p) k)
      where
        true_false : {b : Bool} → b ≡ true → b ≡ false → ⊥
        true_false p q = cc
    go true p o q false e = mine_at (arity_in mine x) refl (other e (arity_in mine x))
    go false p (Some n) q true e = ap (λ (o : Option ℕ). arity_in (cond (is_some o) mine (mine ++ u ∷ [])) x) q ∙ mine_at (arity_in mine x) refl (some (arity_in mine x) (ap is_some (ap (arity_in mine) (same e) ∙ q)))
    go false p (Some n) q false e = ap (λ (o : Option ℕ). arity_in (cond (is_some o) mine (mine ++ u ∷ [])) x) q ∙ mine_at (arity_in mine x) refl (other e (arity_in mine x))
    go false p None q b e = ap (λ (o : Option ℕ). arity_in (cond (is_some o) mine (mine ++ u ∷ [])) x) q ∙ arity-append mine (u ∷ []) x ∙ ap (λ (o : Option ℕ). cond (is_some o) o (arity_in (u ∷ []) x)) (h x k)

pub uses_known : (vars : List Name) (us mine all : List (Name × ℕ)) → ((x : Name) → is_among vars x ≡ false → arity_in mine x ≡ arity_in all x) → (x : Name) → is_among vars x ≡ false → arity_in (with_uses vars mine us) x ≡ arity_in (all ++ us) x
uses_known vars [] mine all h x k = h x k ∙ ap (λ (us : List (Name × ℕ)). arity_in us x) (sym (append-nil all))
uses_known vars (u ∷ us) mine all h x k = uses_known vars us (with_use vars mine u) (all ++ u ∷ []) (use_known vars mine all u h) x k ∙ ap (λ (vs : List (Name × ℕ)). arity_in vs x) (append_assoc all (u ∷ []) us)

-- ---- the open equation's names, and those of its side

abbrev pub equation_after : Option Spot → Token → List Name → List Name
equation_after (Some s) (identifier c) names = cond s.begins [] names ++ c ∷ []
equation_after s t names = names

-- after one more token: none where the equation or its section ends, those of the side anew behind a sign
pub record NamesNext (o : Option SectionFront) (t : Token) (g : Option SectionFront) : Type 0 where
  pub equation : equation_names_of g ≡ cond (ends_rules (look_of o) t) [] (equation_after (spot_of o) t (equation_names_of o))
  pub side : side_names_of g ≡ cond (resets (look_of o) t) [] (cond (ends_rules (look_of o) t) [] (equation_after (spot_of o) t (side_names_of o)))

after_plain : (s : Option Spot) (t : Token) (names more : List Name) → more ≡ names ++ names_of_token t → ((c : Name) → t ≡ identifier c → (sp : Spot) × (s ≡ Some sp) × (sp.begins ≡ false)) → more ≡ equation_after s t names
after_plain s (identifier c) names more e h = let r = h c refl in e ∙ (λ i. cond (sym r.2 i) [] names ++ c ∷ []) ∙ ap (λ (o : Option Spot). equation_after o (identifier c) names) (sym r.1)
after_plain None t names more e h = e ∙ append-nil names
after_plain (Some s) t names more e h = e ∙ append-nil names

not_sign : (u v : TermFront) (t : Token) → next_term u t ≡ Some v → is_sign t ≡ false
not_sign u v arrow h = absurd (none_some (no_term_token u arrow tt ∙ h))
  where
    none_some : None ≡ Some v → ⊥
    none_some e = cc
not_sign u v equals h = absurd (none_some (no_term_token u equals tt ∙ h))
  where
    none_some : None ≡ Some v → ⊥
    none_some e = cc
not_sign u v t h = refl

sign_after : (t : Token) (s : Sign) (o : Option Spot) (names : List Name) → sign_of t ≡ Some s → (equation_after o t names ≡ names) × (is_sign t ≡ true)
sign_after arrow s None names h = (refl, refl)
sign_after arrow s (Some o) names h = (refl, refl)
sign_after equals s None names h = (refl, refl)
sign_after equals s (Some o) names h = (refl, refl)
sign_after t s o names h = absurd (cc)

abbrev GoesOn : EquationFront → Token → EquationFront → Type 0
GoesOn e t after = (equation_names after ≡ equation_after (equation_spot e) t (equation_names e)) × (side_names after ≡ cond (is_sign t) [] (equation_after (equation_spot e) t (side_names e)))

-- the equation goes on
goes_on_names : (e after : EquationFront) (t : Token) → next_equation e t ≡ Some after → GoesOn e t after
goes_on_names (in_left u) after t h = ⊎_elim
    (λ a. let spot : (c : Name) → t ≡ identifier c → (sp : Spot) × (equation_spot (in_left u) ≡ Some sp) × (sp.begins ≡ false) = λ c k. (record { begins = false; side = names_in_front u; equation = names_in_front u; parens = open_parens u }, ap (λ (b : Bool). cond b (Some (record { begins = false; side = names_in_front u; equation = names_in_front u; parens = open_parens u })) None) (awaits_if_name u a.0 c (ap (next_term u) (sym k) ∙ a.1)), refl) in
    subst (GoesOn (in_left u) t) a.2 (
      after_plain (equation_spot (in_left u)) t (names_in_front u) (names_in_front a.0) (term_names u a.0 t a.1) spot,
      after_plain (equation_spot (in_left u)) t (names_in_front u) (names_in_front a.0) (term_names u a.0 t a.1) spot ∙ ap (λ (b : Bool). cond b [] (equation_after (equation_spot (in_left u)) t (names_in_front u))) (sym (not_sign u a.0 t a.1)),
    ))
    (λ a. let r = sign_after t a.1 (equation_spot (in_left u)) (names_in_front u) a.3 in
    subst (GoesOn (in_left u) t) a.4 (
      sym (r.0 ∙ ap names_in_front (is_whole_is u a.0 a.2)),
      ap (λ (b : Bool). cond b [] (equation_after (equation_spot (in_left u)) t (names_in_front u))) (sym r.1),
    ))
    (left_next u t after h)
goes_on_names (behind_sign l s) after (identifier c) h = subst (GoesOn (behind_sign l s) (identifier c)) (same_Some (in_right l s (whole (alone c))) after h) (refl, refl)
goes_on_names (behind_sign l s) after t h = absurd (cc)
goes_on_names (in_right l s u) after t h =
    let r = some_of_map (in_right l s) (next_term u t) after h in
    let spot : (c : Name) → t ≡ identifier c → (sp : Spot) × (equation_spot (in_right l s u) ≡ Some sp) × (sp.begins ≡ false) = λ c k. (record { begins = false; side = names_in_front u; equation = names_in l ++ names_in_front u; parens = open_parens u }, ap (λ (b : Bool). Some (cond b (record { begins = false; side = names_in_front u; equation = names_in l ++ names_in_front u; parens = open_parens u }) new_equation)) (awaits_if_name u r.0 c (ap (next_term u) (sym k) ∙ r.1)), refl) in
    subst (GoesOn (in_right l s u) t) r.2 (
      after_plain (equation_spot (in_right l s u)) t (names_in l ++ names_in_front u) (names_in l ++ names_in_front r.0) (ap (names_in l ++◌) (term_names u r.0 t r.1) ∙ sym (append_assoc (names_in l) (names_in_front u) (names_of_token t))) spot,
      after_plain (equation_spot (in_right l s u)) t (names_in_front u) (names_in_front r.0) (term_names u r.0 t r.1) spot ∙ ap (λ (b : Bool). cond b [] (equation_after (equation_spot (in_right l s u)) t (names_in_front u))) (sym (not_sign u r.0 t r.1)),
    )

plain_next : (o : Option SectionFront) (t : Token) (g : Option SectionFront) → equation_names_of g ≡ [] → side_names_of g ≡ [] → equation_after (spot_of o) t (equation_names_of o) ≡ [] → equation_after (spot_of o) t (side_names_of o) ≡ [] → NamesNext o t g
plain_next o t g a b c d = record {
  equation = a ∙ sym (ap (cond (ends_rules (look_of o) t) []) c ∙ either (ends_rules (look_of o) t));
  side = b ∙ sym (ap (λ (ns : List Name). cond (resets (look_of o) t) [] (cond (ends_rules (look_of o) t) [] ns)) d ∙ ap (cond (resets (look_of o) t) []) (either (ends_rules (look_of o) t)) ∙ either (resets (look_of o) t));
}
  where
    either : (b : Bool) → cond {A = List Name} b [] [] ≡ []
    either true = refl
    either false = refl

no_spot_after : (t : Token) → equation_after None t [] ≡ []
no_spot_after (identifier c) = refl
no_spot_after t = refl

equation_next : (ss : List Section) (es : List WrittenEquation) (e : EquationFront) (t : Token) (w : Option WrittenEquation) (m : Option EquationFront) (g : Front) → whole_equation e ≡ w → next_equation e t ≡ m → next_rules ss es e t w m ≡ Some g → NamesNext (Some (in_equation es e)) t g.open_section
equation_next ss es e t w (Some after) g p q k =
    let r = goes_on_names e after t q in
    let stops : ends_rules (at_equation e) t ≡ false = rules-ended-look (Some (in_equation [] e)) t ∙ (whole_stops e after t q).0 in
    subst (λ (h : Front). NamesNext (Some (in_equation es e)) t h.open_section) (same_Some (record { sections = ss; open_section = Some (in_equation es after) }) g k) (record {
      equation = r.0 ∙ ap (λ (b : Bool). cond b [] (equation_after (equation_spot e) t (equation_names e))) (sym stops);
      side = r.1 ∙ ap (λ (b : Bool). cond (is_sign t) [] (cond b [] (equation_after (equation_spot e) t (side_names e)))) (sym stops);
    })
equation_next ss es e (identifier c) (Some w) None g p q k = subst (λ (h : Front). NamesNext (Some (in_equation es e)) (identifier c) h.open_section) (same_Some (record { sections = ss; open_section = Some (in_equation (es ++ w ∷ []) (in_left (whole (alone c)))) }) g k) (begins e p)
  where
    begins : (e : EquationFront) → whole_equation e ≡ Some w → NamesNext (Some (in_equation es e)) (identifier c) (Some (in_equation (es ++ w ∷ []) (in_left (whole (alone c)))))
    begins (in_left u) p = absurd (cc)
    begins (behind_sign l s) p = absurd (cc)
    begins (in_right l s (whole r)) p = record { equation = refl; side = refl }
    begins (in_right l s (opened f ts)) p = absurd (cc)
    begins (in_right l s (within f ts u)) p = absurd (cc)
equation_next ss es e right_paren (Some w) None g p q k = subst (λ (h : Front). NamesNext (Some (in_equation es e)) right_paren h.open_section) (same_Some (record { sections = ss ++ rules (es ++ w ∷ []) ∷ []; open_section = None }) g k) (record {
  equation = ap (λ (o : Option WrittenEquation). cond (is_some o) [] (equation_after (equation_spot e) right_paren (equation_names e))) (sym p);
  side = ap (λ (o : Option WrittenEquation). cond (is_some o) [] (equation_after (equation_spot e) right_paren (side_names e))) (sym p);
})
equation_next ss es e t w None g p q k = absurd (cc)

skipped_next : (ss : List Section) (x : Name) (ts : List Token) (t : Token) (m : Option ℕ) (g : Front) → next_skipped ss x ts t m ≡ Some g → (equation_names_of g.open_section ≡ []) × (side_names_of g.open_section ≡ [])
skipped_next ss x ts right_paren (Some zero) g k = (ap (λ (h : Front). equation_names_of h.open_section) (sym (same_Some (record { sections = ss ++ skipped x ts ∷ []; open_section = None }) g k)), ap (λ (h : Front). side_names_of h.open_section) (sym (same_Some (record { sections = ss ++ skipped x ts ∷ []; open_section = None }) g k)))
skipped_next ss x ts end_of_input m g k = absurd (cc)
skipped_next ss x ts t m g k = (ap (λ (h : Front). equation_names_of h.open_section) (sym (same_Some (record { sections = ss; open_section = Some (in_skipped x (ts ++ t ∷ [])) }) g k)), ap (λ (h : Front). side_names_of h.open_section) (sym (same_Some (record { sections = ss; open_section = Some (in_skipped x (ts ++ t ∷ [])) }) g k)))

word_next : (ss : List Section) (x : Name) (g : Front) → open_at ss (section_named x) ≡ Some g → (equation_names_of g.open_section ≡ []) × (side_names_of g.open_section ≡ [])
word_next ss x g k = go (bytes_eq x (codes "VAR")) (bytes_eq x (codes "RULES")) (is_among reserved_names x) k
  where
    Plain : Front → Type 0
    Plain h = (equation_names_of h.open_section ≡ []) × (side_names_of h.open_section ≡ [])

    go : (a b d : Bool) → open_at ss (cond a (Some (in_variables [])) (cond b (Some in_rules) (cond d None (Some (in_skipped x []))))) ≡ Some g → Plain g
    go true b d k = subst Plain (same_Some _ g k) (refl, refl)
    go false true d k = subst Plain (same_Some _ g k) (refl, refl)
    go false false true k = absurd (cc)
    go false false false k = subst Plain (same_Some _ g k) (refl, refl)

pub names_next : (ss : List Section) (o : Option SectionFront) (t : Token) (g : Front) → next_section ss o t ≡ Some g → NamesNext o t g.open_section
names_next ss None left_paren g k = subst (λ (h : Front). NamesNext None left_paren h.open_section) (same_Some _ g k) (record { equation = refl; side = refl })
names_next ss None t g k = absurd (cc)
names_next ss (Some begun) (identifier x) g k = let r = word_next ss x g k in plain_next (Some begun) (identifier x) g.open_section r.0 r.1 refl refl
names_next ss (Some begun) t g k = absurd (cc)
names_next ss (Some (in_variables xs)) (identifier x) g k = subst (λ (h : Front). NamesNext (Some (in_variables xs)) (identifier x) h.open_section) (same_Some _ g k) (record { equation = refl; side = refl })
names_next ss (Some (in_variables xs)) right_paren g k = subst (λ (h : Front). NamesNext (Some (in_variables xs)) right_paren h.open_section) (same_Some _ g k) (record { equation = refl; side = refl })
names_next ss (Some (in_variables xs)) t g k = absurd (cc)
names_next ss (Some in_rules) (identifier x) g k = subst (λ (h : Front). NamesNext (Some in_rules) (identifier x) h.open_section) (same_Some _ g k) (record { equation = refl; side = refl })
names_next ss (Some in_rules) right_paren g k = subst (λ (h : Front). NamesNext (Some in_rules) right_paren h.open_section) (same_Some _ g k) (record { equation = refl; side = refl })
names_next ss (Some in_rules) t g k = absurd (cc)
names_next ss (Some (in_equation es e)) t g k = equation_next ss es e t (whole_equation e) (next_equation e t) g refl refl k
names_next ss (Some (in_skipped x ts)) t g k = let r = skipped_next ss x ts t (open_after 0 ts) g k in plain_next (Some (in_skipped x ts)) t g.open_section r.0 r.1 (no_spot_after t) (no_spot_after t)

-- ---- the notes with a name

-- what is kept of the names, with the name that a token may be
name_kept : (n : Notes) (a : Option Spot) (b : Option (Bool × ℕ)) (side equation : List Name) (t : Token) → IsSameSpot a b side equation → n.variables.found ≡ firsts (variables_among n.variables.declared equation) → n.size ≡ length side
    → ((name_notes n b t).variables.found ≡ firsts (variables_among n.variables.declared (equation_after a t equation))) × ((name_notes n b t).size ≡ length (equation_after a t side))
name_kept n None None side equation (identifier x) s f z = (f, z)
name_kept n None None side equation t s f z = (f, z)
name_kept n None (Some b) side equation t s f z = absurd s
name_kept n (Some a) None side equation t s f z = absurd s
name_kept n (Some a) (Some b) side equation (identifier x) s f z =
    (go b.0 a.begins s.0, count b.0 a.begins s.0)
  where
    filtered : (names : List Name) (found : List Name) → found ≡ firsts (variables_among n.variables.declared names) → cond (is_among n.variables.declared x) (with_name found x) found ≡ firsts (variables_among n.variables.declared (names ++ x ∷ []))
    filtered names found e = by (is_among n.variables.declared x) ∙ ap firsts (sym (filter-append (is_among n.variables.declared) names (x ∷ [])))
      where
        by : (v : Bool) → cond v (with_name found x) found ≡ firsts (variables_among n.variables.declared names ++ cond v (x ∷ []) [])
        by true = with_name-firsts found (variables_among n.variables.declared names) x e
        by false = e ∙ ap firsts (sym (append-nil (variables_among n.variables.declared names)))

    go : (p q : Bool) → p ≡ q → cond (is_among n.variables.declared x) (with_name (cond p [] n.variables.found) x) (cond p [] n.variables.found) ≡ firsts (variables_among n.variables.declared (cond q [] equation ++ x ∷ []))
    go true true e = filtered [] [] refl
    go false false e = filtered equation n.variables.found f
    go true false e = absurd (cc)
    go false true e = absurd (cc)

    count : (p q : Bool) → p ≡ q → cond p 0 n.size + 1 ≡ length (cond q [] side ++ x ∷ [])
    count true true e = refl
    count false false e = omega (arith, z, length-append side (x ∷ []))
    count true false e = absurd (cc)
    count false true e = absurd (cc)
name_kept n (Some a) (Some b) side equation t s f z = (f, z)

symbols_kept : (n : Notes) (a : Option Spot) (b : Option (Bool × ℕ)) (side equation names : List Name) (t : Token) → IsSameSpot a b side equation → n.symbols ≡ firsts (symbols_among n.variables.declared names)
    → (name_notes n b t).symbols ≡ firsts (symbols_among n.variables.declared (names ++ names_at a t))
symbols_kept n None None side equation names (identifier x) s f = f ∙ ap (λ (ns : List Name). firsts (symbols_among n.variables.declared ns)) (sym (append-nil names))
symbols_kept n None None side equation names t s f = f ∙ ap (λ (ns : List Name). firsts (symbols_among n.variables.declared ns)) (sym (append-nil names))
symbols_kept n None (Some b) side equation names t s f = absurd s
symbols_kept n (Some a) None side equation names t s f = absurd s
symbols_kept n (Some a) (Some b) side equation names (identifier x) s f = by (is_among n.variables.declared x) ∙ ap firsts (sym (filter-append (λ y. not (is_among n.variables.declared y)) names (x ∷ [])))
  where
    by : (v : Bool) → cond v n.symbols (with_name n.symbols x) ≡ firsts (symbols_among n.variables.declared names ++ cond (not v) (x ∷ []) [])
    by true = f ∙ ap firsts (sym (append-nil (symbols_among n.variables.declared names)))
    by false = with_name-firsts n.symbols (symbols_among n.variables.declared names) x f
symbols_kept n (Some a) (Some b) side equation names t s f = f ∙ ap (λ (ns : List Name). firsts (symbols_among n.variables.declared ns)) (sym (append-nil names))

-- a name changes nothing else
others_kept : (n : Notes) (b : Option (Bool × ℕ)) (t : Token) → ((name_notes n b t).variables.declared ≡ n.variables.declared) × ((name_notes n b t).arities ≡ n.arities) × ((name_notes n b t).equations ≡ n.equations) × ((name_notes n b t).has_rules ≡ n.has_rules)
others_kept n None (identifier x) = (refl, refl, refl, refl)
others_kept n None t = (refl, refl, refl, refl)
others_kept n (Some b) (identifier x) = (refl, refl, refl, refl)
others_kept n (Some b) t = (refl, refl, refl, refl)

-- ---- the next front

-- the names that are kept, of a next front whose variables are these
front_kept : (n m : Notes) (p : Place) (f g : Front) (t : Token) → Stands n p f → IsPassed (prepared n (place_look p) t) (place_look p) t m → NamesNext f.open_section t g.open_section
    → (m.variables.found ≡ firsts (variables_among (front_variables f) (equation_names_of g.open_section))) × (m.size ≡ length (side_names_of g.open_section))
front_kept n m p f g t st passed next =
    let uses : Notes = use_notes n (place_look p) t in
    let kept = name_kept uses (spot_of f.open_section) (spot_at (place_look p)) (side_names_of f.open_section) (equation_names_of f.open_section) t
    (subst (λ (l : Look). IsSameSpot (spot_of f.open_section) (spot_at l) (side_names_of f.open_section) (equation_names_of f.open_section)) (sym st.place) (spot-look f.open_section))
    (st.found ∙ ap (λ (vs : List Name). firsts (variables_among vs (equation_names_of f.open_section))) (sym st.variables)) st.size in (
      passed.found ∙ found (ends_rules (place_look p) t) _ _ (kept.0 ∙ ap (λ (vs : List Name). firsts (variables_among vs (equation_after (spot_of f.open_section) t (equation_names_of f.open_section)))) st.variables)
          ∙ ap (λ (ns : List Name). firsts (variables_among (front_variables f) ns)) (ap (λ (l : Look). cond (ends_rules l t) [] (equation_after (spot_of f.open_section) t (equation_names_of f.open_section))) st.place ∙ sym next.equation),
      passed.size ∙ size (resets (place_look p) t) (ends_rules (place_look p) t) _ _ kept.1
          ∙ ap length (ap (λ (l : Look). cond (resets l t) [] (cond (ends_rules l t) [] (equation_after (spot_of f.open_section) t (side_names_of f.open_section)))) st.place ∙ sym next.side),
    )
  where
    found : (b : Bool) (mine names : List Name) → mine ≡ firsts (variables_among (front_variables f) names) → cond b [] mine ≡ firsts (variables_among (front_variables f) (cond b [] names))
    found true mine names e = refl
    found false mine names e = e

    size : (a b : Bool) (mine : ℕ) (names : List Name) → mine ≡ length names → cond a 0 (cond b 0 mine) ≡ length (cond a [] (cond b [] names))
    size true b mine names e = refl
    size false true mine names e = refl
    size false false mine names e = e

-- what stands where the names of the front stay or where it declares variables
abbrev pub IsDeclared : Option SectionFront → Bool
IsDeclared (Some (in_variables xs)) = true
IsDeclared o = false

none_declared : (o : Option SectionFront) (t : Token) → IsDeclared o ≡ false → new_variables o t ≡ []
none_declared None t e = refl
none_declared (Some begun) t e = refl
none_declared (Some (in_variables xs)) t e = absurd (cc)
none_declared (Some in_rules) t e = refl
none_declared (Some (in_equation es d)) t e = refl
none_declared (Some (in_skipped x ts)) t e = refl

-- the place and the lists that don't depend on variables
record NextBasics (n m : Notes) (q : Place) (f g : Front) (t : Token) : Type 0 where
  pub place : place_look q ≡ look_of g.open_section
  pub equations : map equation_of m.equations.items ≡ equations_of g.sections ++ open_equations g.open_section
  pub rules : m.has_rules ≡ list_any is_rules g.sections
  pub arities : m.arities ≡ with_uses (front_variables f) n.arities (new_uses f.open_section t)
  pub variables : m.variables.declared ≡ with_names (front_variables f) (new_variables f.open_section t)
  pub symbols : m.symbols ≡ firsts (symbols_among (front_variables f) (front_names f ++ new_names f.open_section t))

next_basics : (n m : Notes) (p q : Place) (f g : Front) (t : Token) → Stands n p f → HasDepth f.open_section → next_front f t ≡ Some g → IsPassed (prepared n (place_look p) t) (place_look p) t m → next_look (place_look p) t ≡ Some (place_look q) → Move f.sections f.open_section t g → NextBasics n m q f g t
next_basics n m p q f g t st depth next passed look move =
    let uses : Notes = use_notes n (place_look p) t in
    let kept = others_kept uses (spot_at (place_look p)) t in record {
      place = same_Some (place_look q) (look_of g.open_section) (sym look ∙ ap (λ (l : Look). next_look l t) st.place ∙ sym (next-look f.sections f.open_section t depth) ∙ ap (option_map front_look) next);
      equations = passed.equations ∙ (λ i. map equation_of (kept.2 i).items ++ added_equations (st.place i) t) ∙ (λ i. st.equations i ++ equations-look f.open_section t i) ∙ sym move.equations;
      rules = passed.rules ∙ (λ i. kept.3 i || ends_rules (st.place i) t) ∙ (λ i. st.rules i || rules-ended-look f.open_section t i) ∙ sym move.rules;
      arities = passed.arities ∙ kept.1 ∙ (λ i. with_uses (st.variables i) n.arities (added_uses (st.place i) t)) ∙ ap (with_uses (front_variables f) n.arities) (uses-look f.open_section t);
      variables = passed.variables ∙ (λ i. with_names (kept.0 i) (added_variables (st.place i) t)) ∙ (λ i. with_names (st.variables i) (variables-look f.open_section t i));
      symbols = passed.symbols ∙ symbols_kept uses (spot_of f.open_section) (spot_at (place_look p)) (side_names_of f.open_section) (equation_names_of f.open_section) (front_names f) t
          (subst (λ (l : Look). IsSameSpot (spot_of f.open_section) (spot_at l) (side_names_of f.open_section) (equation_names_of f.open_section)) (sym st.place) (spot-look f.open_section))
          (st.symbols ∙ ap (λ (vs : List Name). firsts (symbols_among vs (front_names f))) (sym st.variables))
          ∙ ap (λ (vs : List Name). firsts (symbols_among vs (front_names f ++ new_names f.open_section t))) st.variables;
    }

pub stands_next : (n m : Notes) (p q : Place) (f g : Front) (t : Token) → Stands n p f → HasDepth f.open_section → Fine f → Unshown f t → next_front f t ≡ Some g
    → IsPassed (prepared n (place_look p) t) (place_look p) t m → next_look (place_look p) t ≡ Some (place_look q) → Stands m q g
stands_next n m p q f g t st depth fine unshown next passed look =
    go (IsDeclared f.open_section) refl
  where
    move : Move f.sections f.open_section t g
    move = section_moves f.sections f.open_section t g next

    basics : NextBasics n m q f g t
    basics = next_basics n m p q f g t st depth next passed look move

    kept : (m.variables.found ≡ firsts (variables_among (front_variables f) (equation_names_of g.open_section))) × (m.size ≡ length (side_names_of g.open_section))
    kept = front_kept n m p f g t st passed (names_next f.sections f.open_section t g next)

    with_same : front_variables f ≡ front_variables g → new_variables f.open_section t ≡ [] → Stands m q g
    with_same same none = record {
      place = basics.place;
      variables = basics.variables ∙ ap (with_names (front_variables f)) none ∙ same;
      equations = basics.equations;
      rules = basics.rules;
      symbols = basics.symbols ∙ (λ i. firsts (symbols_among (same i) (sym move.names i)));
      arities = λ x k. ap (λ (us : List (Name × ℕ)). arity_in us x) basics.arities ∙ uses_known (front_variables f) (new_uses f.open_section t) n.arities (front_uses f) st.arities x (ap (λ (vs : List Name). is_among vs x) same ∙ k) ∙ ap (λ (us : List (Name × ℕ)). arity_in us x) (sym move.uses);
      found = kept.0 ∙ ap (λ (vs : List Name). firsts (variables_among vs (equation_names_of g.open_section))) same;
      size = kept.1;
    }

    declared : (o : Option SectionFront) → f.open_section ≡ o → IsDeclared o ≡ true → Stands m q g
    declared (Some (in_variables xs)) e k =
        let none : equations_of f.sections ≡ [] = no-equations f.sections (fine.none_before (ap is_in_variables e)) in
        let come : with_names (front_variables f) (new_variables f.open_section t) ≡ front_variables f ++ new_variables f.open_section t =
        ap (λ (o : Option SectionFront). with_names (front_variables f) (new_variables o t)) e ∙ with_names-new (front_variables f) t (λ c r. unshown.double c r (ap is_in_variables e)) ∙ ap (λ (o : Option SectionFront). front_variables f ++ new_variables o t) (sym e) in
        let no_names : front_names f ++ new_names f.open_section t ≡ [] = (λ i. (all_names (none i) ++ open_names (e i)) ++ new_names (e i) t) in
        let no_uses : new_uses f.open_section t ≡ [] = ap (λ (o : Option SectionFront). new_uses o t) e in
        let no_equation : equation_names_of g.open_section ≡ [] = behind f.sections xs t g (ap (λ (o : Option SectionFront). next_section f.sections o t) (sym e) ∙ next) in record {
          place = basics.place;
          variables = basics.variables ∙ come ∙ sym move.variables;
          equations = basics.equations;
          rules = basics.rules;
          symbols = basics.symbols ∙ (λ i. firsts (symbols_among (front_variables f) (no_names i))) ∙ (λ i. firsts (symbols_among (front_variables g) (sym (move.names ∙ no_names) i)));
          arities = λ x h. ap (λ (us : List (Name × ℕ)). arity_in us x) (basics.arities ∙ ap (with_uses (front_variables f) n.arities) no_uses)
              ∙ st.arities x (not_before (front_variables f) (new_variables f.open_section t) x (ap (λ (vs : List Name). is_among vs x) (sym move.variables) ∙ h))
              ∙ ap (λ (us : List (Name × ℕ)). arity_in us x) (sym (move.uses ∙ ap (front_uses f ++◌) no_uses ∙ append-nil (front_uses f)));
          found = kept.0 ∙ (λ i. firsts (variables_among (front_variables f) (no_equation i))) ∙ (λ i. firsts (variables_among (front_variables g) (sym no_equation i)));
          size = kept.1;
        }
      where
        behind : (ss : List Section) (xs : List Name) (t : Token) (g : Front) → next_section ss (Some (in_variables xs)) t ≡ Some g → equation_names_of g.open_section ≡ []
        behind ss xs (identifier x) g k = ap (λ (h : Front). equation_names_of h.open_section) (sym (same_Some (record { sections = ss; open_section = Some (in_variables (xs ++ x ∷ [])) }) g k))
        behind ss xs right_paren g k = ap (λ (h : Front). equation_names_of h.open_section) (sym (same_Some (record { sections = ss ++ variables xs ∷ []; open_section = None }) g k))
        behind ss xs t g k = absurd (cc)

        not_before : (xs ys : List Name) (x : Name) → is_among (xs ++ ys) x ≡ false → is_among xs x ≡ false
        not_before xs ys x h = by (is_among xs x) (is_among ys x) (sym (among-append xs ys x) ∙ h)
          where
            by : (a b : Bool) → (a || b) ≡ false → a ≡ false
            by true b e = absurd (cc)
            by false b e = refl
    declared None e k = absurd (cc)
    declared (Some begun) e k = absurd (cc)
    declared (Some in_rules) e k = absurd (cc)
    declared (Some (in_equation es d)) e k = absurd (cc)
    declared (Some (in_skipped x ts)) e k = absurd (cc)

    go : (b : Bool) → IsDeclared f.open_section ≡ b → Stands m q g
    go true e = declared f.open_section refl e
    go false e =
        let none = none_declared f.open_section t e in
        with_same (sym (move.variables ∙ ap (front_variables f ++◌) none ∙ append-nil (front_variables f))) none
