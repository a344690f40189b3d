-- Sides by the applications around their ends.
use Rattle.std.proofs.Common.{◌≡◌, refl, ap, sym, ◌∙◌, subst, arith, ℕ, suc, ◌+◌, ◌-◌, List, [], ◌∷◌, ◌++◌, Option, Some, None, length}
use Rattle.std.specs.Prelude.{map, option_map, slice_get}
use Rattle.std.proofs.lemmas.List.{map-append}
use Rattle.std.proofs.lemmas.Option.{same_Some}
use Rattle.kb_text.specs.Names.{Name}
use Rattle.kb_text.specs.Tokens.{Token, arrow_equals, arrow, equals, bar, left_paren, right_paren, comma, quotation, identifier, end_of_input}
use Rattle.kb_text.specs.Grammar.{Written, alone, applied, Arguments, no_arguments, argument}
use Rattle.kb_text.specs.Fronts.{TermFront, whole, opened, within}
use Rattle.kb_text.specs.Problems.{count_of}
use Rattle.kb_text.specs.Refusals.{awaits_term, open_parens, last_alone, ends_next, arguments_so_far}
use Rattle.kb_text.specs.Machine.{next_term, with_last, is_whole}
use Rattle.kb_text.specs.Written.{arguments_of}
use Rattle.kb_syntax.specs.Written.{written_of}
use Rattle.kb_syntax.specs.Sides.{application_of, enclosed, inner_front, side_front, AreEnd}
use Rattle.kb_syntax.specs.declared.side.Application.{Application}
use Rattle.kb_syntax.specs.declared.side.Inner.{Inner}
use Rattle.kb_syntax.specs.declared.side.Inner.TheVariants.{Whole, Open}
use Rattle.kb_syntax.specs.declared.side.Side.{Side}
use Rattle.kb_syntax.specs.declared.written.WrittenTerm.{WrittenTerm}
use Rattle.kb_syntax.specs.declared.written.WrittenTerm.TheVariants.{Alone, Applied}
use Rattle.kb_text.proofs.RunTerms.{within_step, close_step, comma_step}
use Rattle.kb_syntax.proofs.WrittenArguments.{args, count_of-args}

abbrev pub Enclosing : Type 0
Enclosing = List (Name × Arguments)

-- the front of a side whose end is known
pub front_is : (s : Side) (i : Inner) → s.inner ≡ i → side_front s ≡ enclosed (map application_of s.outer.items) (inner_front i)
front_is s i e = ap (λ (j : Inner). enclosed (map application_of s.outer.items) (inner_front j)) e

enclosed-last : (xs : Enclosing) (a : Name × Arguments) (u : TermFront) → enclosed (xs ++ a ∷ []) u ≡ enclosed xs (within a.0 a.1 u)
enclosed-last [] a u = refl
enclosed-last (x ∷ xs) a u = ap (within x.0 x.1) (enclosed-last xs a u)

pub awaits-enclosed : (xs : Enclosing) (u : TermFront) → awaits_term (enclosed xs u) ≡ awaits_term u
awaits-enclosed [] u = refl
awaits-enclosed (x ∷ xs) u = awaits-enclosed xs u

pub parens-enclosed : (xs : Enclosing) (u : TermFront) → open_parens (enclosed xs u) ≡ length xs + open_parens u
parens-enclosed [] u = omega arith
parens-enclosed (x ∷ xs) u = omega (arith, parens-enclosed xs u)

pub alone-enclosed : (xs : Enclosing) (u : TermFront) → last_alone (enclosed xs u) ≡ last_alone u
alone-enclosed [] u = refl
alone-enclosed (x ∷ xs) u = alone-enclosed xs u

so_far-within : (xs : Enclosing) (f : Name) (ts : Arguments) (t : Written) → arguments_so_far (enclosed xs (within f ts (whole t))) ≡ count_of ts + 1
so_far-within [] f ts t = refl
so_far-within (x ∷ []) f ts t = refl
so_far-within (x ∷ y ∷ xs) f ts t = so_far-within (y ∷ xs) f ts t

so_far-opened : (xs : Enclosing) (f : Name) (ts : Arguments) → arguments_so_far (enclosed xs (opened f ts)) ≡ 0
so_far-opened [] f ts = refl
so_far-opened (x ∷ []) f ts = refl
so_far-opened (x ∷ y ∷ xs) f ts = so_far-opened (y ∷ xs) f ts

pub ends-within : (xs : Enclosing) (f : Name) (ts : Arguments) (t : Written) → ends_next (enclosed xs (within f ts (whole t))) ≡ ends_next (within f ts (whole t))
ends-within [] f ts t = refl
ends-within (x ∷ []) f ts t = refl
ends-within (x ∷ y ∷ xs) f ts t = ends-within (y ∷ xs) f ts t

pub ends-opened : (xs : Enclosing) (f : Name) (ts : Arguments) → ends_next (enclosed xs (opened f ts)) ≡ ends_next (opened f ts)
ends-opened [] f ts = refl
ends-opened (x ∷ []) f ts = refl
ends-opened (x ∷ y ∷ xs) f ts = ends-opened (y ∷ xs) f ts

-- the last of a list
last_of : {X : Type 0} (xs : List X) (a : X) → Some a ≡ slice_get xs (length xs - 1) → (ys : List X) × (xs ≡ ys ++ a ∷ [])
last_of [] a e = absurd (cc)
last_of (x ∷ []) a e = ([], let same : a ≡ x = cc in ap (λ y. y ∷ []) (sym same))
last_of {X} (x ∷ y ∷ xs) a e =
    let one : length (x ∷ y ∷ xs) - 1 ≡ suc (length (y ∷ xs) - 1) = omega arith in
    let r = last_of (y ∷ xs) a (e ∙ ap (slice_get (x ∷ y ∷ xs)) one) in
    (x ∷ r.0, ap (x ∷◌) r.1)

outer_last : (s : Side) (a : Application) → Some a ≡ slice_get s.outer.items (length s.outer.items - 1) → (ys : Enclosing) × (map application_of s.outer.items ≡ ys ++ application_of a ∷ [])
outer_last s a e =
    let r = last_of s.outer.items a e in
    (map application_of r.0, ap (map application_of) r.1 ∙ map-append application_of r.0 (a ∷ []))

-- the front, where the end is a whole term with an application around it
pub around : (s : Side) (t : WrittenTerm) (a : Application) → s.inner ≡ Whole t → Some a ≡ slice_get s.outer.items (length s.outer.items - 1)
    → (ys : Enclosing) × (side_front s ≡ enclosed ys (within (application_of a).0 (application_of a).1 (whole (written_of t))))
around s t a e h =
    let r = outer_last s a h in
    (r.0, front_is s (Whole t) e ∙ ap (λ (xs : Enclosing). enclosed xs (whole (written_of t))) r.1 ∙ enclosed-last r.0 (application_of a) (whole (written_of t)))

pub so_far-around : (s : Side) (t : WrittenTerm) (a : Application) → s.inner ≡ Whole t → Some a ≡ slice_get s.outer.items (length s.outer.items - 1) → arguments_so_far (side_front s) ≡ length a.arguments.items + 1
so_far-around s t a e h =
    let r = around s t a e h in
    ap arguments_so_far r.1 ∙ so_far-within r.0 (application_of a).0 (application_of a).1 (written_of t) ∙ ap (λ (n : ℕ). n + 1) (count_of-args a.arguments.items)

pub so_far-open : (s : Side) (a : Application) → s.inner ≡ Open a → arguments_so_far (side_front s) ≡ 0
so_far-open s a e = ap arguments_so_far (front_is s (Open a) e) ∙ so_far-opened (map application_of s.outer.items) (application_of a).0 (application_of a).1

pub ends-around : (s : Side) (t : WrittenTerm) (a : Application) → s.inner ≡ Whole t → Some a ≡ slice_get s.outer.items (length s.outer.items - 1) → AreEnd (ends_next (side_front s)) a.name.now (length a.arguments.items + 1)
ends-around s t a e h =
    let r = around s t a e h in
    subst (λ (o : Option (Name × ℕ × ℕ)). AreEnd o a.name.now (length a.arguments.items + 1)) (sym (ap ends_next r.1 ∙ ends-within r.0 (application_of a).0 (application_of a).1 (written_of t)))
    (refl, ap (λ (n : ℕ). n + 1) (count_of-args a.arguments.items))

ends_open : (f : Name) (ts : List WrittenTerm) → length ts ≡ 0 → AreEnd (ends_next (opened f (args ts))) f 0
ends_open f [] e = (refl, refl)
ends_open f (t ∷ ts) e = absurd (omega arith)

pub ends-empty : (s : Side) (a : Application) → s.inner ≡ Open a → length a.arguments.items ≡ 0 → AreEnd (ends_next (side_front s)) a.name.now 0
ends-empty s a e h = subst (λ (o : Option (Name × ℕ × ℕ)). AreEnd o a.name.now 0) (sym (ap ends_next (front_is s (Open a) e) ∙ ends-opened (map application_of s.outer.items) (application_of a).0 (application_of a).1)) (ends_open a.name.now a.arguments.items h)

ends_some : (f : Name) (ts : List WrittenTerm) → (length ts ≡ 0 → ⊥) → ends_next (opened f (args ts)) ≡ None
ends_some f [] h = absurd (h refl)
ends_some f (t ∷ ts) h = refl

pub ends-some : (s : Side) (a : Application) → s.inner ≡ Open a → (length a.arguments.items ≡ 0 → ⊥) → ends_next (side_front s) ≡ None
ends-some s a e h = ap ends_next (front_is s (Open a) e) ∙ ends-opened (map application_of s.outer.items) (application_of a).0 (application_of a).1 ∙ ends_some a.name.now a.arguments.items h

pub whole-empty : (s : Side) (t : WrittenTerm) → s.inner ≡ Whole t → length s.outer.items ≡ 0 → is_whole (side_front s) ≡ Some (written_of t)
whole-empty s t e h = ap is_whole (front_is s (Whole t) e) ∙ go s.outer.items h
  where
    go : (xs : List Application) → length xs ≡ 0 → is_whole (enclosed (map application_of xs) (whole (written_of t))) ≡ Some (written_of t)
    go [] h = refl
    go (x ∷ xs) h = absurd (omega arith)

pub whole-some : (s : Side) (t : WrittenTerm) → s.inner ≡ Whole t → (length s.outer.items ≡ 0 → ⊥) → is_whole (side_front s) ≡ None
whole-some s t e h = ap is_whole (front_is s (Whole t) e) ∙ go s.outer.items h
  where
    go : (xs : List Application) → (length xs ≡ 0 → ⊥) → is_whole (enclosed (map application_of xs) (whole (written_of t))) ≡ None
    go [] h = absurd (h refl)
    go (x ∷ xs) h = refl

pub whole-open : (s : Side) (a : Application) → s.inner ≡ Open a → is_whole (side_front s) ≡ None
whole-open s a e = ap is_whole (front_is s (Open a) e) ∙ go s.outer.items
  where
    go : (xs : List Application) → is_whole (enclosed (map application_of xs) (inner_front (Open a))) ≡ None
    go [] = refl
    go (x ∷ xs) = refl

-- ---- one token more

step-enclosed : (xs : Enclosing) (u w : TermFront) (t : Token) → next_term u t ≡ Some w → next_term (enclosed xs u) t ≡ Some (enclosed xs w)
step-enclosed [] u w t h = h
step-enclosed (x ∷ xs) u w t h = within_step x.0 x.1 (enclosed xs u) (enclosed xs w) t (step-enclosed xs u w t h)

none-opened : (xs : Enclosing) (f : Name) (ts : Arguments) (t : Token) → next_term (opened f ts) t ≡ None → next_term (enclosed xs (opened f ts)) t ≡ None
none-opened [] f ts t h = h
none-opened (x ∷ []) f ts t h = ap (option_map (within x.0 x.1)) h
none-opened (x ∷ y ∷ xs) f ts t h = ap (option_map (within x.0 x.1)) (none-opened (y ∷ xs) f ts t h)

-- behind a whole term no name comes within the side
pub name-whole : (xs : Enclosing) (v : Written) (c : Name) → next_term (enclosed xs (whole v)) (identifier c) ≡ None
name-whole [] (alone d) c = refl
name-whole [] (applied f ts) c = refl
name-whole (x ∷ []) (alone d) c = refl
name-whole (x ∷ []) (applied f ts) c = refl
name-whole (x ∷ y ∷ xs) v c = ap (option_map (within x.0 x.1)) (name-whole (y ∷ xs) v c)

paren-applied : (xs : Enclosing) (f : Name) (ts : Arguments) → next_term (enclosed xs (whole (applied f ts))) left_paren ≡ None
paren-applied [] f ts = refl
paren-applied (x ∷ []) f ts = refl
paren-applied (x ∷ y ∷ xs) f ts = ap (option_map (within x.0 x.1)) (paren-applied (y ∷ xs) f ts)

name-opened : (xs : Enclosing) (f : Name) (ts : Arguments) (c : Name) → next_term (enclosed xs (opened f ts)) (identifier c) ≡ Some (enclosed (xs ++ (f, ts) ∷ []) (whole (alone c)))
name-opened xs f ts c = step-enclosed xs (opened f ts) (within f ts (whole (alone c))) (identifier c) (go ts) ∙ ap Some (sym (enclosed-last xs (f, ts) (whole (alone c))))
  where
    go : (ts : Arguments) → next_term (opened f ts) (identifier c) ≡ Some (within f ts (whole (alone c)))
    go no_arguments = refl
    go (argument a more) = refl

args-push : (ts : List WrittenTerm) (t : WrittenTerm) → args (ts ++ t ∷ []) ≡ with_last (args ts) (written_of t)
args-push [] t = refl
args-push (u ∷ us) t = ap (argument (written_of u)) (args-push us t)

pub named : (s : Side) (a : Application) (c : Name) → s.inner ≡ Open a → (outer : List Application) → outer ≡ s.outer.items ++ a ∷ []
    → Some (enclosed (map application_of outer) (whole (alone c))) ≡ next_term (side_front s) (identifier c)
named s a c e outer h = sym (ap (λ (u : TermFront). next_term u (identifier c)) (front_is s (Open a) e) ∙ name-opened (map application_of s.outer.items) (application_of a).0 (application_of a).1 c
    ∙ ap (λ (xs : Enclosing). Some (enclosed xs (whole (alone c)))) (sym (map-append application_of s.outer.items (a ∷ [])) ∙ ap (map application_of) (sym h)))

pub not_named : (s : Side) (t : WrittenTerm) (c : Name) → s.inner ≡ Whole t → None ≡ next_term (side_front s) (identifier c)
not_named s t c e = sym (ap (λ (u : TermFront). next_term u (identifier c)) (front_is s (Whole t) e) ∙ name-whole (map application_of s.outer.items) (written_of t) c)

opening : (s : Side) (i : Inner) (c : Name) → s.inner ≡ i → inner_front i ≡ whole (alone c) → Some (enclosed (map application_of s.outer.items) (opened c no_arguments)) ≡ next_term (side_front s) left_paren
opening s i c e h = sym (ap (λ (u : TermFront). next_term u left_paren) (front_is s i e ∙ ap (enclosed (map application_of s.outer.items)) h) ∙ step-enclosed (map application_of s.outer.items) (whole (alone c)) (opened c no_arguments) left_paren refl)

not_opening : (s : Side) (i : Inner) (f : Name) (ts : Arguments) → s.inner ≡ i → inner_front i ≡ whole (applied f ts) → None ≡ next_term (side_front s) left_paren
not_opening s i f ts e h = sym (ap (λ (u : TermFront). next_term u left_paren) (front_is s i e ∙ ap (enclosed (map application_of s.outer.items)) h) ∙ paren-applied (map application_of s.outer.items) f ts)

none_open : (s : Side) (a : Application) (t : Token) → s.inner ≡ Open a → next_term (opened (application_of a).0 (application_of a).1) t ≡ None → None ≡ next_term (side_front s) t
none_open s a t e h = sym (ap (λ (u : TermFront). next_term u t) (front_is s (Open a) e) ∙ none-opened (map application_of s.outer.items) (application_of a).0 (application_of a).1 t h)

opened-paren : (f : Name) (ts : Arguments) → next_term (opened f ts) left_paren ≡ None
opened-paren f no_arguments = refl
opened-paren f (argument a more) = refl

opened-comma : (f : Name) (ts : Arguments) → next_term (opened f ts) comma ≡ None
opened-comma f no_arguments = refl
opened-comma f (argument a more) = refl

not_opening_open : (s : Side) (a : Application) → s.inner ≡ Open a → None ≡ next_term (side_front s) left_paren
not_opening_open s a e = none_open s a left_paren e (opened-paren (application_of a).0 (application_of a).1)

-- what stands at the end, by the name alone that does
alone_at : (s : Side) (i : Inner) (o : Option Name) → last_alone (side_front s) ≡ o → s.inner ≡ i → last_alone (inner_front i) ≡ o
alone_at s i o h e = sym (ap last_alone (front_is s i e) ∙ alone-enclosed (map application_of s.outer.items) (inner_front i)) ∙ h

pub opening_behind : (s : Side) (c : Name) → last_alone (side_front s) ≡ Some c → Some (enclosed (map application_of s.outer.items) (opened c no_arguments)) ≡ next_term (side_front s) left_paren
opening_behind s c h = go s.inner refl
  where
    go : (i : Inner) → s.inner ≡ i → Some (enclosed (map application_of s.outer.items) (opened c no_arguments)) ≡ next_term (side_front s) left_paren
    go (Whole (Alone d)) e = opening s (Whole (Alone d)) c e (ap (λ (x : Name). whole (alone x)) (same_Some d.now c (alone_at s (Whole (Alone d)) (Some c) h e)))
    go (Whole (Applied f ts)) e = let none : None ≡ Some c = alone_at s (Whole (Applied f ts)) (Some c) h e in absurd (cc)
    go (Open a) e = let none : None ≡ Some c = alone_at s (Open a) (Some c) h e in absurd (cc)

pub not_opening_behind : (s : Side) → last_alone (side_front s) ≡ None → None ≡ next_term (side_front s) left_paren
not_opening_behind s h = go s.inner refl
  where
    go : (i : Inner) → s.inner ≡ i → None ≡ next_term (side_front s) left_paren
    go (Whole (Alone d)) e = let some : Some d.now ≡ None = alone_at s (Whole (Alone d)) None h e in absurd (cc)
    go (Whole (Applied f ts)) e = not_opening s (Whole (Applied f ts)) f.now (arguments_of ts) e refl
    go (Open a) e = not_opening_open s a e

pub not_parted_open : (s : Side) (a : Application) → s.inner ≡ Open a → None ≡ next_term (side_front s) comma
not_parted_open s a e = none_open s a comma e (opened-comma (application_of a).0 (application_of a).1)

-- the tokens that stand behind no whole side
bare : (v : Written) → (next_term (whole v) comma ≡ None) × (next_term (whole v) right_paren ≡ None)
bare (alone c) = (refl, refl)
bare (applied f ts) = (refl, refl)

-- the front of a side whose end is whole, with the last application around it
split_front : (s : Side) (t : WrittenTerm) (outer : List Application) (a : Application) → s.inner ≡ Whole t → s.outer.items ≡ outer ++ a ∷ []
    → side_front s ≡ enclosed (map application_of outer) (within a.name.now (args a.arguments.items) (whole (written_of t)))
split_front s t outer a e h = front_is s (Whole t) e
    ∙ ap (λ (xs : Enclosing). enclosed xs (whole (written_of t))) (ap (map application_of) h ∙ map-append application_of outer (a ∷ []))
    ∙ enclosed-last (map application_of outer) (application_of a) (whole (written_of t))

pub closing : (s : Side) (t : WrittenTerm) (outer : List Application) (a : Application) (f : Name) (ts : List WrittenTerm) → s.inner ≡ Whole t → s.outer.items ≡ outer ++ a ∷ []
    → f ≡ a.name.now → ts ≡ a.arguments.items ++ t ∷ []
    → Some (enclosed (map application_of outer) (whole (applied f (args ts)))) ≡ next_term (side_front s) right_paren
closing s t outer a f ts e h p q =
    (λ i. Some (enclosed (map application_of outer) (whole (applied (p i) ((ap args q ∙ args-push a.arguments.items t) i)))))
    ∙ sym (ap (λ (u : TermFront). next_term u right_paren) (split_front s t outer a e h)
    ∙ step-enclosed (map application_of outer) _ (whole (applied a.name.now (with_last (args a.arguments.items) (written_of t)))) right_paren (close_step a.name.now (args a.arguments.items) (written_of t)))

pub parting : (s : Side) (t : WrittenTerm) (outer : List Application) (a : Application) (f : Name) (ts : List WrittenTerm) → s.inner ≡ Whole t → s.outer.items ≡ outer ++ a ∷ []
    → f ≡ a.name.now → ts ≡ a.arguments.items ++ t ∷ []
    → Some (enclosed (map application_of outer) (opened f (args ts))) ≡ next_term (side_front s) comma
parting s t outer a f ts e h p q =
    (λ i. Some (enclosed (map application_of outer) (opened (p i) ((ap args q ∙ args-push a.arguments.items t) i))))
    ∙ sym (ap (λ (u : TermFront). next_term u comma) (split_front s t outer a e h)
    ∙ step-enclosed (map application_of outer) _ (opened a.name.now (with_last (args a.arguments.items) (written_of t))) comma (comma_step a.name.now (args a.arguments.items) (written_of t)))

close_empty : (f : Name) (ts : List WrittenTerm) → length ts ≡ 0 → next_term (opened f (args ts)) right_paren ≡ Some (whole (applied f (args ts)))
close_empty f [] h = refl
close_empty f (t ∷ ts) h = absurd (omega arith)

close_some : (f : Name) (ts : List WrittenTerm) → (length ts ≡ 0 → ⊥) → next_term (opened f (args ts)) right_paren ≡ None
close_some f [] h = absurd (h refl)
close_some f (t ∷ ts) h = refl

pub closing_open : (s : Side) (a : Application) (f : Name) (ts : List WrittenTerm) → s.inner ≡ Open a → f ≡ a.name.now → ts ≡ a.arguments.items → length a.arguments.items ≡ 0
    → Some (enclosed (map application_of s.outer.items) (whole (applied f (args ts)))) ≡ next_term (side_front s) right_paren
closing_open s a f ts e p q h =
    (λ i. Some (enclosed (map application_of s.outer.items) (whole (applied (p i) (args (q i))))))
    ∙ sym (ap (λ (u : TermFront). next_term u right_paren) (front_is s (Open a) e) ∙ step-enclosed (map application_of s.outer.items) _ _ right_paren (close_empty a.name.now a.arguments.items h))

pub not_closing : (s : Side) (a : Application) → s.inner ≡ Open a → (length a.arguments.items ≡ 0 → ⊥) → None ≡ next_term (side_front s) right_paren
not_closing s a e h = none_open s a right_paren e (close_some a.name.now a.arguments.items h)

-- tokens that no term has
abbrev pub IsNoTermToken : Token → Type 0
IsNoTermToken arrow_equals = Unit {0}
IsNoTermToken arrow = Unit {0}
IsNoTermToken equals = Unit {0}
IsNoTermToken bar = Unit {0}
IsNoTermToken quotation = Unit {0}
IsNoTermToken end_of_input = Unit {0}
IsNoTermToken left_paren = ⊥
IsNoTermToken right_paren = ⊥
IsNoTermToken comma = ⊥
IsNoTermToken (identifier x) = ⊥

pub no_term_token : (u : TermFront) (t : Token) → IsNoTermToken t → None ≡ next_term u t
no_term_token (whole (alone c)) arrow_equals h = refl
no_term_token (whole (alone c)) arrow h = refl
no_term_token (whole (alone c)) equals h = refl
no_term_token (whole (alone c)) bar h = refl
no_term_token (whole (alone c)) quotation h = refl
no_term_token (whole (alone c)) end_of_input h = refl
no_term_token (whole (alone c)) t h = absurd h
no_term_token (whole (applied f ts)) t h = refl
no_term_token (opened f no_arguments) arrow_equals h = refl
no_term_token (opened f no_arguments) arrow h = refl
no_term_token (opened f no_arguments) equals h = refl
no_term_token (opened f no_arguments) bar h = refl
no_term_token (opened f no_arguments) quotation h = refl
no_term_token (opened f no_arguments) end_of_input h = refl
no_term_token (opened f no_arguments) t h = absurd h
no_term_token (opened f (argument a more)) arrow_equals h = refl
no_term_token (opened f (argument a more)) arrow h = refl
no_term_token (opened f (argument a more)) equals h = refl
no_term_token (opened f (argument a more)) bar h = refl
no_term_token (opened f (argument a more)) quotation h = refl
no_term_token (opened f (argument a more)) end_of_input h = refl
no_term_token (opened f (argument a more)) t h = absurd h
no_term_token (within f ts (whole (alone c))) arrow_equals h = refl
no_term_token (within f ts (whole (alone c))) arrow h = refl
no_term_token (within f ts (whole (alone c))) equals h = refl
no_term_token (within f ts (whole (alone c))) bar h = refl
no_term_token (within f ts (whole (alone c))) quotation h = refl
no_term_token (within f ts (whole (alone c))) end_of_input h = refl
no_term_token (within f ts (whole (alone c))) t h = absurd h
no_term_token (within f ts (whole (applied g us))) arrow_equals h = refl
no_term_token (within f ts (whole (applied g us))) arrow h = refl
no_term_token (within f ts (whole (applied g us))) equals h = refl
no_term_token (within f ts (whole (applied g us))) bar h = refl
no_term_token (within f ts (whole (applied g us))) quotation h = refl
no_term_token (within f ts (whole (applied g us))) end_of_input h = refl
no_term_token (within f ts (whole (applied g us))) t h = absurd h
no_term_token (within f ts (opened g us)) t h = ap (option_map (within f ts)) (no_term_token (opened g us) t h)
no_term_token (within f ts (within g us u)) t h = ap (option_map (within f ts)) (no_term_token (within g us u) t h)
