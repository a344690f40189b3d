-- What a reader's notes show of the front that they stand for.
use Rattle.std.proofs.Common.{◌≡◌, refl, ap, sym, ◌∙◌, arith, ℕ, ◌+◌, List, [], ◌∷◌, ◌++◌, Option, Some, None, Bool, true, false, cond, ◌&&◌, length, length-append}
use Rattle.std.specs.Prelude.{not, map, bytes_eq, is_some, nat_eq, nat_lt}
use Rattle.std.proofs.lemmas.List.{length-map}
use Rattle.kb_text.specs.Names.{Name, is_among, firsts}
use Rattle.kb_text.specs.Tokens.{identifier}
use Rattle.kb_text.specs.Grammar.{Section}
use Rattle.kb_text.specs.Fronts.{TermFront, SectionFront, begun, in_variables, in_rules, in_equation, in_skipped, Front}
use Rattle.kb_text.specs.Problems.{arity_in, variables_among, symbols_among, equations_of}
use Rattle.kb_text.specs.Refusals.{front_count, front_variables, front_names, front_uses, is_some_and, spot_of, is_new, Spot, has_other_arity, ended_alone, last_alone, back, alone_clash, closing_clash_of}
use Rattle.kb_syntax.specs.Moves.{side_names_of, equation_names_of, open_equations}
use Rattle.kb_syntax.specs.Looks.{Look, at_word, at_variables, at_rules, at_equation, look_of, spot_at, is_one_more, word_row}
use Rattle.kb_syntax.specs.Written.{equation_of}
use Rattle.kb_syntax.specs.Reader.{Stands, place_look, count_at, spot_row, at_a_spot, own_name_row, name_row, alone_row, closing_row}
use Rattle.kb_syntax.specs.declared.reader.Place.{Place}
use Rattle.kb_syntax.specs.declared.notes.Notes.{Notes}
use Rattle.kb_text.specs.declared.kind.Kind.{Kind}
use Rattle.kb_text.specs.declared.kind.Kind.TheVariants.{DoubleVariable, Limit}
use Rattle.kb_text.specs.declared.kind.Bound.TheVariants.{Name as NameLimit, Equations, Size, Depth, Symbols, Variables}
use Rattle.kb_syntax.proofs.Rows.{first_of, own_kinds, five, long-rows, word-rows, variable-rows, outside-rows, skipped-rows, spot-rows, no-spot-rows, IsSameSpot, spot-look}
use Rattle.kb_text.proofs.Firsts.{is_among-firsts}

-- how many equations have begun
pub count-known : (n : Notes) (o : Option SectionFront) (ss : List Section) → map equation_of n.equations.items ≡ equations_of ss ++ open_equations o → front_count (record { sections = ss; open_section = o }) ≡ count_at n (look_of o)
count-known n o ss h = go o (omega (arith, ap length h, length-map n.equations.items equation_of, length-append (equations_of ss) (open_equations o)))
  where
    go : (o : Option SectionFront) → length n.equations.items ≡ length (equations_of ss) + length (open_equations o) → front_count (record { sections = ss; open_section = o }) ≡ count_at n (look_of o)
    go None k = omega arith
    go (Some begun) k = omega arith
    go (Some (in_variables xs)) k = omega arith
    go (Some in_rules) k = omega arith
    go (Some (in_equation es e)) k = omega arith
    go (Some (in_skipped x ts)) k = omega arith

-- a new name, by the list of the different names
new-known : (names xs : List Name) (n : ℕ) (x : Name) → names ≡ firsts xs → is_new x xs n ≡ is_one_more names n x
new-known names xs n x h = (λ i. not (sym (is_among-firsts xs x) i) && nat_eq (length (firsts xs)) n) ∙ ap (λ (ns : List Name). not (is_among ns x) && nat_eq (length ns) n) (sym h)

-- the five tests, and the order in which the notes are asked
by_variable : (a b c v s : Bool) (d e : Bool) → s ≡ (d && not v) → five a b c s (e && v)
    ≡ cond a (Some (Limit Equations)) (cond b (Some (Limit Size)) (cond c (Some (Limit Depth)) (cond v (cond e (Some (Limit Variables)) None) (cond d (Some (Limit Symbols)) None))))
by_variable a b c v s d e h = ap (λ (s : Bool). five a b c s (e && v)) h ∙ go a b c v d e
  where
    go : (a b c v d e : Bool) → five a b c (d && not v) (e && v) ≡ cond a (Some (Limit Equations)) (cond b (Some (Limit Size)) (cond c (Some (Limit Depth)) (cond v (cond e (Some (Limit Variables)) None) (cond d (Some (Limit Symbols)) None))))
    go true b c v d e = refl
    go false true c v d e = refl
    go false false true v d e = refl
    go false false false true true true = refl
    go false false false true true false = refl
    go false false false true false true = refl
    go false false false true false false = refl
    go false false false false true true = refl
    go false false false false true false = refl
    go false false false false false true = refl
    go false false false false false false = refl

found-known : (vars found : List Name) (b : Bool) (equation names : List Name) → found ≡ firsts (variables_among vars names) → equation ≡ cond b [] names → cond b [] found ≡ firsts (variables_among vars equation)
found-known vars found true equation names h e = sym (ap (λ (ns : List Name). firsts (variables_among vars ns)) e)
found-known vars found false equation names h e = h ∙ sym (ap (λ (ns : List Name). firsts (variables_among vars ns)) e)

size-known : (size : ℕ) (b : Bool) (side names : List Name) → size ≡ length names → side ≡ cond b [] names → cond b 0 size ≡ length side
size-known size true side names h e = sym (ap length e)
size-known size false side names h e = h ∙ sym (ap length e)

spot-known : (n : Notes) (p : Place) (f : Front) → Stands n p f → (x : Name) → nat_lt 64 (length x) ≡ false → (a : Option Spot) (b : Option (Bool × ℕ)) → spot_of f.open_section ≡ a → IsSameSpot a b (side_names_of f.open_section) (equation_names_of f.open_section)
    → (own : Option Kind) → (a ≡ None → own ≡ None) → ((s : Spot) → a ≡ Some s → own ≡ five (s.begins && nat_eq (front_count f) 256) (nat_eq (length s.side) 512) (nat_eq s.parens 64) (is_new x (symbols_among (front_variables f) (front_names f)) 24 && not (is_among (front_variables f) x)) (is_new x (variables_among (front_variables f) s.equation) 64 && is_among (front_variables f) x))
    → own ≡ at_a_spot n (front_count f) b x
spot-known n p f st x h None None e same own none some = none refl
spot-known n p f st x h None (Some b) e same own none some = absurd same
spot-known n p f st x h (Some s) None e same own none some = absurd same
spot-known n p f st x h (Some s) (Some b) e same own none some =
    some s refl
    ∙ by_variable (s.begins && nat_eq (front_count f) 256) (nat_eq (length s.side) 512) (nat_eq s.parens 64) (is_among (front_variables f) x)
    (is_new x (symbols_among (front_variables f) (front_names f)) 24 && not (is_among (front_variables f) x)) (is_new x (symbols_among (front_variables f) (front_names f)) 24) (is_new x (variables_among (front_variables f) s.equation) 64) refl
    ∙ (λ i. cond (sym same.0 i && nat_eq (front_count f) 256) (Some (Limit Equations)) (cond (nat_eq (sizes i) 512) (Some (Limit Size)) (cond (nat_eq (sym same.1 i) 64) (Some (Limit Depth))
    (cond (is_among (sym st.variables i) x) (cond (is_variable i) (Some (Limit Variables)) None) (cond (is_symbol i) (Some (Limit Symbols)) None)))))
  where
    sizes : length s.side ≡ cond b.0 0 n.size
    sizes = sym (size-known n.size s.begins s.side (side_names_of f.open_section) st.size same.2) ∙ ap (λ (b : Bool). cond b 0 n.size) (sym same.0)

    is_variable : is_new x (variables_among (front_variables f) s.equation) 64 ≡ is_one_more (cond b.0 [] n.variables.found) 64 x
    is_variable = new-known (cond s.begins [] n.variables.found) (variables_among (front_variables f) s.equation) 64 x (found-known (front_variables f) n.variables.found s.begins s.equation (equation_names_of f.open_section) st.found same.3) ∙ ap (λ (b : Bool). is_one_more (cond b [] n.variables.found) 64 x) (sym same.0)

    is_symbol : is_new x (symbols_among (front_variables f) (front_names f)) 24 ≡ is_one_more n.symbols 24 x
    is_symbol = new-known n.symbols (symbols_among (front_variables f) (front_names f)) 24 x st.symbols

-- the rows of a name
pub name-known : (n : Notes) (p : Place) (f : Front) → Stands n p f → (x : Name) → first_of own_kinds f (identifier x) ≡ name_row n (place_look p) x
name-known n p f st x = go f.sections f.open_section st (nat_lt 64 (length x)) refl ∙ ap (λ (l : Look). name_row n l x) (sym st.place)
  where
    -- where the name is short
    short : (ss : List Section) (o : Option SectionFront) → Stands n p (record { sections = ss; open_section = o }) → nat_lt 64 (length x) ≡ false → first_of own_kinds (record { sections = ss; open_section = o }) (identifier x) ≡ own_name_row n (look_of o) x
    short ss None st h = outside-rows ss x h
    short ss (Some begun) st h = word-rows ss x h ∙ ap (λ (b : Bool). word_row b x) (sym st.rules)
    short ss (Some (in_variables xs)) st h = variable-rows ss xs x h ∙ ap (λ (vs : List Name). cond (is_among vs x) (Some DoubleVariable) None) (sym st.variables)
    short ss (Some in_rules) st h =
        spot-known n p (record { sections = ss; open_section = Some in_rules }) st x h (spot_of (Some in_rules)) (spot_at at_rules) refl (spot-look (Some in_rules)) _ (λ e. absurd (cc)) (λ s e. spot-rows (record { sections = ss; open_section = Some in_rules }) x s e h)
        ∙ ap (λ (k : ℕ). spot_row n k (true, 0) x) (count-known n (Some in_rules) ss st.equations)
    short ss (Some (in_equation es e)) st h =
        spot-known n p (record { sections = ss; open_section = Some (in_equation es e) }) st x h (spot_of (Some (in_equation es e))) (spot_at (at_equation e)) refl (spot-look (Some (in_equation es e))) _
        (λ k. no-spot-rows (record { sections = ss; open_section = Some (in_equation es e) }) es e x refl k h)
        (λ s k. spot-rows (record { sections = ss; open_section = Some (in_equation es e) }) x s k h)
        ∙ ap (λ (k : ℕ). at_a_spot n k (spot_at (at_equation e)) x) (count-known n (Some (in_equation es e)) ss st.equations)
    short ss (Some (in_skipped y ts)) st h = skipped-rows ss y ts x

    go : (ss : List Section) (o : Option SectionFront) → Stands n p (record { sections = ss; open_section = o }) → (b : Bool) → nat_lt 64 (length x) ≡ b → first_of own_kinds (record { sections = ss; open_section = o }) (identifier x) ≡ name_row n (look_of o) x
    go ss (Some (in_skipped y ts)) st b h = skipped-rows ss y ts x
    go ss None st true h = long-rows (record { sections = ss; open_section = None }) x h refl ∙ sym (ap (λ (b : Bool). cond b (Some (Limit NameLimit)) (own_name_row n (look_of None) x)) h)
    go ss None st false h = short ss None st h ∙ sym (ap (λ (b : Bool). cond b (Some (Limit NameLimit)) (own_name_row n (look_of None) x)) h)
    go ss (Some begun) st true h = long-rows (record { sections = ss; open_section = Some begun }) x h refl ∙ sym (ap (λ (b : Bool). cond b (Some (Limit NameLimit)) (own_name_row n at_word x)) h)
    go ss (Some begun) st false h = short ss (Some begun) st h ∙ sym (ap (λ (b : Bool). cond b (Some (Limit NameLimit)) (own_name_row n at_word x)) h)
    go ss (Some (in_variables xs)) st true h = long-rows (record { sections = ss; open_section = Some (in_variables xs) }) x h refl ∙ sym (ap (λ (b : Bool). cond b (Some (Limit NameLimit)) (own_name_row n at_variables x)) h)
    go ss (Some (in_variables xs)) st false h = short ss (Some (in_variables xs)) st h ∙ sym (ap (λ (b : Bool). cond b (Some (Limit NameLimit)) (own_name_row n at_variables x)) h)
    go ss (Some in_rules) st true h = long-rows (record { sections = ss; open_section = Some in_rules }) x h refl ∙ sym (ap (λ (b : Bool). cond b (Some (Limit NameLimit)) (own_name_row n at_rules x)) h)
    go ss (Some in_rules) st false h = short ss (Some in_rules) st h ∙ sym (ap (λ (b : Bool). cond b (Some (Limit NameLimit)) (own_name_row n at_rules x)) h)
    go ss (Some (in_equation es e)) st true h = long-rows (record { sections = ss; open_section = Some (in_equation es e) }) x h refl ∙ sym (ap (λ (b : Bool). cond b (Some (Limit NameLimit)) (own_name_row n (at_equation e) x)) h)
    go ss (Some (in_equation es e)) st false h = short ss (Some (in_equation es e)) st h ∙ sym (ap (λ (b : Bool). cond b (Some (Limit NameLimit)) (own_name_row n (at_equation e) x)) h)

-- ---- clashes

pub arity-append : (us vs : List (Name × ℕ)) (x : Name) → arity_in (us ++ vs) x ≡ cond (is_some (arity_in us x)) (arity_in us x) (arity_in vs x)
arity-append [] vs x = refl
arity-append (u ∷ us) vs x = go (bytes_eq x u.0) (arity-append us vs x)
  where
    go : (b : Bool) → arity_in (us ++ vs) x ≡ cond (is_some (arity_in us x)) (arity_in us x) (arity_in vs x) → cond b (Some u.1) (arity_in (us ++ vs) x) ≡ cond (is_some (cond b (Some u.1) (arity_in us x))) (cond b (Some u.1) (arity_in us x)) (arity_in vs x)
    go true h = refl
    go false h = h

other-append : (us ws vs : List (Name × ℕ)) (x : Name) (k : ℕ) → arity_in us x ≡ arity_in ws x → has_other_arity (us ++ vs) x k ≡ has_other_arity (ws ++ vs) x k
other-append us ws vs x k h = ap (λ (o : Option ℕ). is_some_and o (λ m. not (nat_eq m k))) (arity-append us vs x ∙ ap (λ (o : Option ℕ). cond (is_some o) o (arity_in vs x)) h ∙ sym (arity-append ws vs x))

pub alone-known : (n : Notes) (p : Place) (f : Front) → Stands n p f → ((x : Name) → is_among (front_variables f) x ≡ true → has_other_arity (front_uses f) x 0 ≡ false) → (u : TermFront) → alone_clash f (Some u) ≡ alone_row n (last_alone u)
alone-known n p f st variables u = go (last_alone u)
  where
    clash : (c : Name) (b : Bool) → is_among (front_variables f) c ≡ b → has_other_arity (front_uses f) c 0 ≡ (not b && has_other_arity n.arities c 0)
    clash c true h = variables c h
    clash c false h = ap (λ (o : Option ℕ). is_some_and o (λ m. not (nat_eq m 0))) (sym (st.arities c h))

    go : (o : Option Name) → back (is_some_and o (λ c. has_other_arity (front_uses f) c 0)) 1 ≡ alone_row n o
    go None = refl
    go (Some c) = ap (λ (b : Bool). cond b (Some 1) None) (clash c (is_among (front_variables f) c) refl ∙ ap (λ (vs : List Name). not (is_among vs c) && has_other_arity n.arities c 0) (sym st.variables))

pub closing-known : (n : Notes) (p : Place) (f : Front) → Stands n p f → (alone : Option Name) (a : Option (Name × ℕ × ℕ)) → ((x : Name × ℕ × ℕ) → a ≡ Some x → is_among (front_variables f) x.0 ≡ false) → closing_clash_of (front_uses f ++ ended_alone alone) a ≡ closing_row n alone a
closing-known n p f st alone None h = refl
closing-known n p f st alone (Some a) h = ap (λ (b : Bool). cond b (Some a.2) None) (other-append (front_uses f) n.arities (ended_alone alone) a.0 a.1 (sym (st.arities a.0 (h a refl))))
