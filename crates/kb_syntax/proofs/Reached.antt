-- How far a reader has come in a text.
use Rattle.std.proofs.Common.{append-nil, append_assoc, ◌≡◌, inl, inr, refl, ap, sym, ◌∙◌, subst, arith, ℕ, zero, suc, ◌+◌, ◌-◌, ◌<◌, ◌≤◌, List, [], ◌∷◌, ◌++◌, Option, Some, None, Bool, true, false, cond, ◌||◌, length, length-append, take, drop, flat_map}
use Rattle.std.specs.Prelude.{map, All, AllPairs, IsUtf8, option_map, nat_lt, nat_le, nat_eq, not, unwrap_or, filter, bytes_eq}
use Rattle.std.specs.List.{list_all, list_any, AllByRecursion}
use Rattle.std.specs.Str.{IsCharBoundary}
use Rattle.std.proofs.lemmas.Option.{same_Some}
use Rattle.std.proofs.lemmas.List.Elements.{All-push, All-nil, All-cons, All-head, All-tail, All-filter, All-weaker, All-map, All-get_or, filter_passes}
use Rattle.std.proofs.lemmas.Str.{IsCharBoundary-start}
use Rattle.kb_term.specs.Identifier.{IsIdentifier}
use Rattle.kb_term.specs.Signature.{SymbolEntry}
use Rattle.kb_text.specs.Names.{Name, is_among, firsts}
use Rattle.kb_text.specs.Tokens.{Token, Placed, tokens, tokens_from, arrow_equals, arrow, equals, bar, left_paren, right_paren, comma, quotation, identifier, end_of_input}
use Rattle.kb_text.specs.declared.lexer.Mark.TheVariants.{ArrowEquals, Arrow, Equals, Bar, LeftParen, RightParen, Comma, Quotation}
use Rattle.kb_text.specs.Starts.{first_and_rest, IsInText, IsAhead, EndsBehind}
use Rattle.kb_text.specs.Grammar.{Section, IsSection, section_tokens, text_tokens, open_after, term_tokens, equation_tokens, sign_token}
use Rattle.kb_text.specs.Fronts.{TermFront, in_left, behind_sign, in_right, SectionFront, begun, in_variables, in_rules, in_equation, in_skipped, Front, IsFrontOf, IsSectionFront, open_tokens, term_front_tokens}
use Rattle.kb_text.specs.Problems.{Spells, MeetsLimits, symbol_names, equation_variables, variables_of, equations_of, all_names, all_uses, arity_in, entry_of, symbols_among, is_rules, equation_of as problem_equation}
use Rattle.kb_text.specs.Refusals.{ShowNothing, IsFirstShown, IsRefused, by_tokens, place_of, side_of, front_variables, front_names, front_uses, is_open}
use Rattle.kb_text.specs.Machine.{best, kinds, bad_token, judged, may_end, next_front, first_from, go, from_next, start}
use Rattle.kb_syntax.specs.Looks.{Look, outside, look_of, look_side, next_look, depth_of, spot_at}
use Rattle.kb_syntax.specs.Sides.{token_at}
use Rattle.kb_syntax.specs.Written.{equation_of}
use Rattle.kb_syntax.specs.Reader.{Stands, place_look, IsNextReader, IsShortSide, AreEmpty, IsProblemNoted, problem_from, name_notes, use_notes}
use Rattle.kb_syntax.specs.Refused.{IsFault, IsRefusal}
use Rattle.kb_text.specs.declared.kind.Kind.{Kind}
use Rattle.kb_text.specs.declared.kind.Kind.TheVariants.{BadToken, Unclosed, BadSection}
use Rattle.kb_syntax.specs.declared.fault.SyntaxFault.{SyntaxFault}
use Rattle.kb_syntax.specs.declared.fault.SyntaxFault.TheVariants.{Refused, Memory}
use Rattle.kb_text.specs.declared.lexer.Form.{Form}
use Rattle.kb_text.specs.declared.lexer.Form.TheVariants.{Mark as MarkForm, Identifier, End}
use Rattle.kb_text.specs.declared.lexer.Found.{Found}
use Rattle.kb_syntax.specs.declared.reader.Place.{Place}
use Rattle.kb_syntax.specs.declared.reader.Reader.{Reader}
use Rattle.kb_syntax.specs.declared.notes.Notes.{Notes}
use Rattle.kb_text.proofs.Exact.{first_exact, nothing_more, empty_nothing, start_front}
use Rattle.kb_text.proofs.Sound.{front_sound}
use Rattle.kb_text.proofs.RunTexts.{closed_at, is_some_is}
use Rattle.kb_syntax.proofs.LookLaws.{HasDepth, next-look, side-look, front_look}
use Rattle.kb_syntax.proofs.Fine.{Fine, fine_use, is_short}
use Rattle.kb_text.proofs.IdentifierLaws.{AllPairs-map}
use Rattle.std.proofs.lemmas.Slice.Eq.{bytes_eq-Decides}
use Rattle.std.proofs.lemmas.Bool.{and_parts}
use Rattle.kb_syntax.proofs.FineNext.{row_none, here_none, unshown, fine_next, fine_start, meets_conditions, meets_limits}
use Rattle.kb_syntax.proofs.StandsNext.{stands_next}

pub record Reached (bytes : List ℕ) (at number : ℕ) (r : Reader) : Type 0 where
  pub before : List Token
  pub front : Front
  pub within : at ≤ length bytes
  pub few : number ≤ at
  pub boundary : IsCharBoundary bytes at
  pub tokens_are : tokens bytes ≡ before ++ map (λ (t : Placed). t.token) (tokens_from 0 at (drop at bytes))
  pub number_is : number ≡ length before
  pub is_front : IsFrontOf before front
  pub nothing : ShowNothing before
  pub stands : Stands r.notes r.place front
  pub fine : Fine front
  pub identifiers : All IsIdentifier r.notes.symbols

-- at the start
pub start_reached : (bytes : List ℕ) (r : Reader) → IsUtf8 bytes → AreEmpty r.notes → place_look r.place ≡ outside → Reached bytes 0 0 r
start_reached bytes r u e p = record {
  before = [];
  front = start;
  within = omega arith;
  few = omega arith;
  boundary = IsCharBoundary-start bytes u;
  tokens_are = refl;
  number_is = refl;
  is_front = start_front;
  nothing = empty_nothing;
  stands = record {
    place = p;
    variables = e.variables;
    equations = ap (map equation_of) e.equations;
    rules = e.rules;
    symbols = e.symbols;
    arities = λ x k. ap (λ us. arity_in us x) e.arities;
    found = e.found;
    size = e.size;
  };
  fine = fine_start;
  identifiers = subst (All IsIdentifier) (sym e.symbols) (All-nil IsIdentifier);
}

-- ---- bounds

-- a side has no more tokens than stand before
side_tokens : (o : Option SectionFront) (u : TermFront) → side_of o ≡ Some u → length (term_front_tokens u) ≤ length (open_tokens o)
side_tokens None u e = absurd (cc)
side_tokens (Some begun) u e = absurd (cc)
side_tokens (Some (in_variables xs)) u e = absurd (cc)
side_tokens (Some in_rules) u e = absurd (cc)
side_tokens (Some (in_equation es (in_left v))) u e = omega (arith, ap (λ (x : TermFront). length (term_front_tokens x)) (same_Some v u e), length-append (flat_map equation_tokens es) (term_front_tokens v))
side_tokens (Some (in_equation es (behind_sign l s))) u e = absurd (cc)
side_tokens (Some (in_equation es (in_right l s v))) u e = omega (arith, ap (λ (x : TermFront). length (term_front_tokens x)) (same_Some v u e), length-append (flat_map equation_tokens es) (term_tokens l ++ sign_token s ∷ term_front_tokens v), length-append (term_tokens l) (sign_token s ∷ term_front_tokens v))
side_tokens (Some (in_skipped x ts)) u e = absurd (cc)

open_length : (before : List Token) (f : Front) → IsFrontOf before f → length (open_tokens f.open_section) ≤ length before
open_length before f h = omega (arith, ap length h.tokens_are, length-append (flat_map section_tokens f.sections) (open_tokens f.open_section))

pub short_side : (bytes : List ℕ) (at number : ℕ) (r : Reader) → length bytes ≤ 1048576 → Reached bytes at number r → IsShortSide (look_side (place_look r.place))
short_side bytes at number r b h = subst IsShortSide (sym (ap look_side h.stands.place ∙ side-look h.front.open_section)) (go (side_of h.front.open_section) refl)
  where
    go : (o : Option TermFront) → side_of h.front.open_section ≡ o → IsShortSide o
    go None e = tt
    go (Some u) e =
        let within = h.within in
        let few = h.few in
        let number_is = h.number_is in
        let all = open_length h.before h.front h.is_front in
        let some = side_tokens h.front.open_section u e in
        let few_tokens : length (term_front_tokens u) ≤ 1048576 = omega (arith, all, some, number_is, few, within, b) in
        omega (arith, few_tokens)

depth_bound : (ts : List Token) (n m : ℕ) → open_after n ts ≡ Some m → m ≤ n + length ts
depth_bound [] n m h = omega (arith, same_Some n m h)
depth_bound (left_paren ∷ ts) n m h = omega (arith, depth_bound ts (suc n) m h)
depth_bound (right_paren ∷ ts) zero m h = absurd (cc)
depth_bound (right_paren ∷ ts) (suc n) m h = omega (arith, depth_bound ts n m h)
depth_bound (end_of_input ∷ ts) n m h = absurd (cc)
depth_bound (arrow_equals ∷ ts) n m h = omega (arith, depth_bound ts n m h)
depth_bound (arrow ∷ ts) n m h = omega (arith, depth_bound ts n m h)
depth_bound (equals ∷ ts) n m h = omega (arith, depth_bound ts n m h)
depth_bound (bar ∷ ts) n m h = omega (arith, depth_bound ts n m h)
depth_bound (comma ∷ ts) n m h = omega (arith, depth_bound ts n m h)
depth_bound (quotation ∷ ts) n m h = omega (arith, depth_bound ts n m h)
depth_bound (identifier x ∷ ts) n m h = omega (arith, depth_bound ts n m h)

has_depth : (o : Option SectionFront) → IsSectionFront o → HasDepth o
has_depth None h = tt
has_depth (Some begun) h = tt
has_depth (Some (in_variables xs)) h = tt
has_depth (Some in_rules) h = tt
has_depth (Some (in_equation es e)) h = tt
has_depth (Some (in_skipped x ts)) h = h.1

pub small_depth : (bytes : List ℕ) (at number : ℕ) (r : Reader) → length bytes ≤ 1048576 → Reached bytes at number r → depth_of (place_look r.place) ≤ 1048576
small_depth bytes at number r b h =
    let within = h.within in
    let few = h.few in
    let number_is = h.number_is in
    let all = open_length h.before h.front h.is_front in
    omega (arith, ap depth_of h.stands.place, go h.front.open_section h.is_front.open_section, all, number_is, few, within, b)
  where
    go : (o : Option SectionFront) → IsSectionFront o → depth_of (look_of o) ≤ length (open_tokens o)
    go None k = omega arith
    go (Some begun) k = omega arith
    go (Some (in_variables xs)) k = omega arith
    go (Some in_rules) k = omega arith
    go (Some (in_equation es e)) k = omega arith
    go (Some (in_skipped x ts)) k = let r = is_some_is (open_after 0 ts) k.1 in omega (arith, ap (λ (o : Option ℕ). unwrap_or o 0) r.1, depth_bound ts 0 r.0 r.1)

-- ---- one token

abbrev pub tail_at : List ℕ → ℕ → Form → List Token
tail_at bytes end (MarkForm m) = map (λ (t : Placed). t.token) (tokens_from 0 end (drop end bytes))
tail_at bytes end Identifier = map (λ (t : Placed). t.token) (tokens_from 0 end (drop end bytes))
tail_at bytes end End = []

abbrev pub name_of : List ℕ → Found → List ℕ
name_of bytes f = take (f.end - f.at) (drop f.at bytes)

-- what was found, as a token and those behind it
found_token : (bytes : List ℕ) (f : Found) → map (λ (t : Placed). t.token) (first_and_rest bytes f) ≡ token_at f.form (take (f.end - f.at) (drop f.at bytes)) ∷ tail_at bytes f.end f.form
found_token bytes f = go f.form
  where
    go : (form : Form) → map (λ (t : Placed). t.token) (first_and_rest bytes (record f { form = form })) ≡ token_at form (take (f.end - f.at) (drop f.at bytes)) ∷ tail_at bytes f.end form
    go (MarkForm m) = refl
    go Identifier = refl
    go End = refl

next_tokens : (bytes : List ℕ) (at number : ℕ) (r : Reader) (f : Found) → tokens_from 0 at (drop at bytes) ≡ first_and_rest bytes f → (h : Reached bytes at number r) → tokens bytes ≡ h.before ++ token_at f.form (name_of bytes f) ∷ tail_at bytes f.end f.form
next_tokens bytes at number r f e h = h.tokens_are ∙ ap (λ (ts : List Placed). h.before ++ map (λ (t : Placed). t.token) ts) e ∙ ap (h.before ++◌) (found_token bytes f)

kept_best : (p : Kind × ℕ) (next : Option Front) (b : Bool) → bad_token (Some p) next b ≡ Some p
kept_best p None true = refl
kept_best p None false = ap (λ (c : Bool). cond c (Some (BadToken, 0)) (Some p)) (below p.1)
  where
    below : (n : ℕ) → nat_lt n 0 ≡ false
    below n = grind arith
kept_best p (Some g) b = refl

refused_at : (bytes : List ℕ) (at number : ℕ) (r : Reader) (f : Found) → length bytes ≤ 1048576 → IsUtf8 bytes → (h : Reached bytes at number r) → tokens_from 0 at (drop at bytes) ≡ first_and_rest bytes f
    → (p : Kind × ℕ) → judged h.front (token_at f.form (name_of bytes f)) ≡ Some p → IsRefused bytes p.0 (place_of bytes (number - p.1))
refused_at bytes at number r f b u h e p k =
    let t = token_at f.form (name_of bytes f) in
    let rest = tail_at bytes f.end f.form in
    let run : first_from h.front (t ∷ rest) number ≡ Some (p.0, number - p.1) = ap (λ (o : Option (Kind × ℕ)). go o number (λ m. from_next (next_front h.front t) (λ g. first_from g rest m))) k in
    by_tokens b u (number - p.1) (subst (λ (ts : List Token). IsFirstShown ts p.0 (number - p.1)) (sym (next_tokens bytes at number r f e h)) (first_exact (t ∷ rest) h.before h.front number p.0 (number - p.1) h.is_front h.nothing h.number_is run))

fault_of : (bytes : List ℕ) (kind : Kind) (number : ℕ) (e : SyntaxFault) → IsRefusal bytes kind number e → IsRefused bytes kind (place_of bytes number) → IsFault bytes e
fault_of bytes kind number (Refused x) r h = subst (λ (k : Kind). IsRefused bytes k x.at) (sym r.0) (subst (IsRefused bytes kind) (sym r.1) h)
fault_of bytes kind number Memory r h = absurd r

-- a refusal that the reader shows
pub shown_fault : (bytes : List ℕ) (at number : ℕ) (r : Reader) (f : Found) → length bytes ≤ 1048576 → IsUtf8 bytes → (h : Reached bytes at number r) → tokens_from 0 at (drop at bytes) ≡ first_and_rest bytes f
    → (kind : Kind) (k : ℕ) → best None kinds h.front (token_at f.form (name_of bytes f)) ≡ Some (kind, k) → (e : SyntaxFault) → IsRefusal bytes kind (number - k) e → IsFault bytes e
shown_fault bytes at number r f b u h e kind k s x i =
    let t = token_at f.form (name_of bytes f) in
    fault_of bytes kind (number - k) x i (refused_at bytes at number r f b u h e (kind, k) (ap (λ (o : Option (Kind × ℕ)). bad_token o (next_front h.front t) (may_end h.front.open_section t)) s ∙ kept_best (kind, k) (next_front h.front t) (may_end h.front.open_section t)))

-- a token that the grammar doesn't have there
pub bad_fault : (bytes : List ℕ) (at number : ℕ) (r : Reader) (f : Found) → length bytes ≤ 1048576 → IsUtf8 bytes → (h : Reached bytes at number r) → tokens_from 0 at (drop at bytes) ≡ first_and_rest bytes f → (f.form ≡ End → ⊥)
    → best None kinds h.front (token_at f.form (name_of bytes f)) ≡ None → next_look (place_look r.place) (token_at f.form (name_of bytes f)) ≡ None → (e : SyntaxFault) → IsRefusal bytes BadToken number e → IsFault bytes e
bad_fault bytes at number r f b u h e n s k x i =
    let t = token_at f.form (name_of bytes f) in
    let none : next_front h.front t ≡ None = no_front (next_front h.front t) (next-look h.front.sections h.front.open_section t (has_depth h.front.open_section h.is_front.open_section) ∙ ap (λ (l : Look). next_look l t) (sym h.stands.place) ∙ k) in
    let bad : judged h.front t ≡ Some (BadToken, 0) = (λ j. bad_token (s j) (none j) (not_end h.front.open_section f.form n j)) in
    let same : number - 0 ≡ number = omega arith in
    fault_of bytes BadToken number x i (subst (λ (m : ℕ). IsRefused bytes BadToken (place_of bytes m)) same (refused_at bytes at number r f b u h e (BadToken, 0) bad))
  where
    no_front : (o : Option Front) → option_map front_look o ≡ None → o ≡ None
    no_front None e = refl
    no_front (Some g) e = absurd (cc)

    not_end : (o : Option SectionFront) (form : Form) → (form ≡ End → ⊥) → may_end o (token_at form (name_of bytes f)) ≡ false
    not_end o End n = absurd (n refl)
    not_end None Identifier n = refl
    not_end (Some s) Identifier n = refl
    not_end None (MarkForm ArrowEquals) n = refl
    not_end None (MarkForm Arrow) n = refl
    not_end None (MarkForm Equals) n = refl
    not_end None (MarkForm Bar) n = refl
    not_end None (MarkForm LeftParen) n = refl
    not_end None (MarkForm RightParen) n = refl
    not_end None (MarkForm Comma) n = refl
    not_end None (MarkForm Quotation) n = refl
    not_end (Some s) (MarkForm m) n = refl

-- ---- the next reader

symbols_identified : (n : Notes) (o : Option (Bool × ℕ)) (f : Form) (name : List ℕ) → All IsIdentifier n.symbols → (f ≡ Identifier → IsIdentifier name) → All IsIdentifier (name_notes n o (token_at f name)).symbols
symbols_identified n None (MarkForm m) name h k = h
symbols_identified n None Identifier name h k = h
symbols_identified n None End name h k = h
symbols_identified n (Some s) End name h k = h
symbols_identified n (Some s) (MarkForm ArrowEquals) name h k = h
symbols_identified n (Some s) (MarkForm Arrow) name h k = h
symbols_identified n (Some s) (MarkForm Equals) name h k = h
symbols_identified n (Some s) (MarkForm Bar) name h k = h
symbols_identified n (Some s) (MarkForm LeftParen) name h k = h
symbols_identified n (Some s) (MarkForm RightParen) name h k = h
symbols_identified n (Some s) (MarkForm Comma) name h k = h
symbols_identified n (Some s) (MarkForm Quotation) name h k = h
symbols_identified n (Some s) Identifier name h k = go (is_among n.variables.declared name) (is_among n.symbols name)
  where
    go : (v a : Bool) → All IsIdentifier (cond v n.symbols (cond a n.symbols (n.symbols ++ name ∷ [])))
    go true a = h
    go false true = h
    go false false = All-push IsIdentifier n.symbols name h (k refl)

pub is_ahead : (at : ℕ) (f : Found) → (f.form ≡ End → ⊥) → IsAhead at f → at < f.end
is_ahead at f n h = go f.form n h
  where
    go : (form : Form) → (form ≡ End → ⊥) → EndsBehind at f.end form → at < f.end
    go (MarkForm m) n h = h
    go Identifier n h = h
    go End n h = absurd (n refl)

pub stepped : (bytes : List ℕ) (at number : ℕ) (r s : Reader) (f : Found) → IsUtf8 bytes → (h : Reached bytes at number r) → tokens_from 0 at (drop at bytes) ≡ first_and_rest bytes f → (f.form ≡ End → ⊥) → f.end ≤ length bytes → at < f.end → IsInText bytes f
    → best None kinds h.front (token_at f.form (name_of bytes f)) ≡ None → IsNextReader r (token_at f.form (name_of bytes f)) (Some s) → Reached bytes f.end (number + 1) s
stepped bytes at number r s f u h e n within ahead text quiet next =
    by_front (next_front h.front t) refl (next-look h.front.sections h.front.open_section t depth ∙ ap (λ (l : Look). next_look l t) (sym h.stands.place) ∙ next.0)
  where
    t : Token
    t = token_at f.form (name_of bytes f)

    depth : HasDepth h.front.open_section
    depth = has_depth h.front.open_section h.is_front.open_section

    tail : (form : Form) → (form ≡ End → ⊥) → tail_at bytes f.end form ≡ map (λ (t : Placed). t.token) (tokens_from 0 f.end (drop f.end bytes))
    tail (MarkForm m) n = refl
    tail Identifier n = refl
    tail End n = absurd (n refl)

    by_front : (o : Option Front) → next_front h.front t ≡ o → option_map front_look o ≡ Some (place_look s.place) → Reached bytes f.end (number + 1) s
    by_front None k l = absurd (cc)
    by_front (Some g) k l =
        let not_judged : judged h.front t ≡ None = (λ i. bad_token (quiet i) (k i) (may_end h.front.open_section t)) in record {
          before = h.before ++ t ∷ [];
          front = g;
          within = within;
          few = let few = h.few in omega (arith, few, ahead);
          boundary = text.boundary;
          tokens_are = next_tokens bytes at number r f e h ∙ sym (append_assoc h.before (t ∷ []) (tail_at bytes f.end f.form)) ∙ ap ((h.before ++ t ∷ []) ++◌) (tail f.form n);
          number_is = omega (arith, h.number_is, length-append h.before (t ∷ []));
          is_front = front_sound h.before h.front g t h.is_front k;
          nothing = nothing_more h.before h.front t h.is_front h.nothing not_judged;
          stands = stands_next r.notes s.notes r.place s.place h.front g t h.stands depth h.fine (unshown h.front t quiet) k next.1 next.0;
          fine = fine_next h.front g t h.fine (unshown h.front t quiet) k;
          identifiers = subst (All IsIdentifier) (sym next.1.symbols) (symbols_identified (use_notes r.notes (place_look r.place) t) (spot_at (place_look r.place)) f.form (name_of bytes f) h.identifiers text.identifier);
        }

-- ---- the end

end_open : (f : Front) → best None kinds f end_of_input ≡ None → f.open_section ≡ None
end_open f e = go f.open_section (here_none (is_open f.open_section) (row_none f end_of_input Unclosed (inr (inl refl)) e))
  where
    go : (o : Option SectionFront) → is_open o ≡ false → o ≡ None
    go None k = refl
    go (Some s) k = absurd (cc)

end_rules : (ss : List Section) → best None kinds (closed_at ss) end_of_input ≡ None → list_any is_rules ss ≡ true
end_rules ss e = go (list_any is_rules ss) (here_none _ (row_none (closed_at ss) end_of_input BadSection (inr (inr (inl refl))) e))
  where
    go : (b : Bool) → not b ≡ false → b ≡ true
    go true k = refl
    go false k = absurd (cc)

-- ---- lists of names

all_tests : (p : Name → Bool) (xs : List Name) → list_all p xs ≡ true → All (λ x. p x ≡ true) xs
all_tests p [] h = All-nil (λ x. p x ≡ true)
all_tests p (x ∷ xs) h = let r = and_parts (p x) (list_all p xs) h in All-cons (λ x. p x ≡ true) x xs r.0 (all_tests p xs r.1)

all_firsts : (P : Name → Type 0) (xs : List Name) → All P xs → All P (firsts xs)
all_firsts P [] h = h
all_firsts P (x ∷ xs) h = All-cons P x (filter (λ y. not (bytes_eq y x)) (firsts xs)) (All-head P x xs h) (All-filter (λ y. not (bytes_eq y x)) P (firsts xs) (all_firsts P xs (All-tail P x xs h)))

abbrev Differ : List Name → Type 0
Differ [] = Unit {0}
Differ (x ∷ xs) = All (λ y. ¬ (x ≡ y)) xs × Differ xs

differ_filter : (p : Name → Bool) (xs : List Name) → Differ xs → Differ (filter p xs)
differ_filter p [] h = tt
differ_filter p (x ∷ xs) h = go (p x) (differ_filter p xs h.1)
  where
    go : (b : Bool) → Differ (filter p xs) → Differ (cond b (x ∷ filter p xs) (filter p xs))
    go true d = (All-filter p (λ y. ¬ (x ≡ y)) xs h.0, d)
    go false d = d

differ_firsts : (xs : List Name) → Differ (firsts xs)
differ_firsts [] = tt
differ_firsts (x ∷ xs) = (All-weaker (λ y. not (bytes_eq y x) ≡ true) (λ y. ¬ (x ≡ y)) other (filter (λ y. not (bytes_eq y x)) (firsts xs)) (filter_passes (λ y. not (bytes_eq y x)) (firsts xs)), differ_filter (λ y. not (bytes_eq y x)) (firsts xs) (differ_firsts xs))
  where
    other : (y : Name) → not (bytes_eq y x) ≡ true → ¬ (x ≡ y)
    other y e same = go (bytes_eq y x) ((bytes_eq-Decides y x).1 (sym same)) e
      where
        go : (b : Bool) → b ≡ true → not b ≡ true → ⊥
        go true p q = cc
        go false p q = cc

pairs : (xs : List Name) → Differ xs → AllPairs (λ x y. ¬ (x ≡ y)) xs
pairs [] h i j d p q = absurd (omega arith)
pairs (x ∷ xs) h zero zero d p q = absurd (omega arith)
pairs (x ∷ xs) h zero (suc j) d p q = All-get_or (λ y. ¬ (x ≡ y)) xs j d (omega arith) h.0
pairs (x ∷ xs) h (suc i) zero d p q = absurd (omega arith)
pairs (x ∷ xs) h (suc i) (suc j) d p q = pairs xs h.1 i j d (omega arith) (omega arith)

map_agree : {X Y : Type 0} (f g : X → Y) (xs : List X) → All (λ x. f x ≡ g x) xs → map f xs ≡ map g xs
map_agree f g [] h = refl
map_agree f g (x ∷ xs) h = (λ i. All-head (λ x. f x ≡ g x) x xs h i ∷ map_agree f g xs (All-tail (λ x. f x ≡ g x) x xs h) i)

-- the first use of a name has at most 8 arguments where all uses do
arity_at_most : (vars : List Name) (us : List (Name × ℕ)) (x : Name) → list_all (fine_use vars) us ≡ true → unwrap_or (arity_in us x) 0 ≤ 8
arity_at_most vars [] x h = omega arith
arity_at_most vars (u ∷ us) x h = go (bytes_eq x u.0) (arity_at_most vars us x (and_parts (fine_use vars u) (list_all (fine_use vars) us) h).1)
  where
    below : (n : ℕ) → nat_le n 8 ≡ true → n ≤ 8
    below n e = grind arith

    go : (b : Bool) → unwrap_or (arity_in us x) 0 ≤ 8 → unwrap_or (cond b (Some u.1) (arity_in us x)) 0 ≤ 8
    go true r = below u.1 (and_parts (nat_le u.1 8) (not (is_among vars u.0) || nat_eq u.1 0) (and_parts (fine_use vars u) (list_all (fine_use vars) us) h).0).0
    go false r = r

-- ---- a whole text

pub record Finished (bytes : List ℕ) (n : Notes) : Type 0 where
  pub noted : IsProblemNoted n
  pub spelled : Spells bytes (problem_from n)

finished_at : (bytes : List ℕ) (n : Notes) (p : Place) (ss : List Section) → length bytes ≤ 1048576 → IsUtf8 bytes → AllByRecursion IsSection ss → tokens bytes ≡ text_tokens ss → Stands n p (closed_at ss) → Fine (closed_at ss) → All IsIdentifier n.symbols → list_any is_rules ss ≡ true → Finished bytes n
finished_at bytes n p ss b u sections tokens_are st fine identified has_rules = record {
  noted = record {
    signature = record {
      names = All-map (λ (f : SymbolEntry). IsIdentifier f.name × (length f.name ≤ 64)) (entry_of n.arities) n.symbols (All-both n.symbols identified short);
      differ = AllPairs-map (λ (f g : SymbolEntry). ¬ (f.name ≡ g.name)) (entry_of n.arities) n.symbols (subst (AllPairs (λ x y. ¬ (x ≡ y))) (sym symbols_are) (pairs (symbol_names ss) (differ_firsts (symbols_among (variables_of ss) (all_names (equations_of ss))))));
    };
    arities = All-weaker (λ x. is_among (variables_of ss) x ≡ false) (λ x. unwrap_or (arity_in n.arities x) 0 ≤ 8) arity_few n.symbols no_variables;
    symbols = let few = fine.symbols in omega (arith, ap length st.symbols, few);
    variables = (λ i. list_all (λ e. nat_le (length (equation_variables (variables_are i) e)) 64) (equations_are i)) ∙ limits.variables_each;
  };
  spelled = record {
    short = b;
    utf8 = u;
    sections = ss;
    are_sections = sections;
    tokens_are = tokens_are;
    conditions = meets_conditions ss fine has_rules;
    limits = limits;
    stands_for = (λ i. record { signature = signature_is i; equations = map (problem_equation (variables_are i) (symbols_are i)) (equations_are i) });
  };
}
  where
    limits : MeetsLimits ss
    limits = meets_limits ss fine

    variables_are : n.variables.declared ≡ variables_of ss
    variables_are = st.variables ∙ append-nil (variables_of ss)

    names_are : front_names (closed_at ss) ≡ all_names (equations_of ss)
    names_are = append-nil (all_names (equations_of ss))

    equations_are : map equation_of n.equations.items ≡ equations_of ss
    equations_are = st.equations ∙ append-nil (equations_of ss)

    symbols_are : n.symbols ≡ symbol_names ss
    symbols_are = st.symbols ∙ (λ i. firsts (symbols_among (append-nil (variables_of ss) i) (names_are i)))

    no_variables : All (λ x. is_among (variables_of ss) x ≡ false) n.symbols
    no_variables = subst (All (λ x. is_among (variables_of ss) x ≡ false)) (sym symbols_are)
        (all_firsts (λ x. is_among (variables_of ss) x ≡ false) (symbols_among (variables_of ss) (all_names (equations_of ss)))
        (All-weaker (λ x. not (is_among (variables_of ss) x) ≡ true) (λ x. is_among (variables_of ss) x ≡ false) turned (symbols_among (variables_of ss) (all_names (equations_of ss))) (filter_passes (λ x. not (is_among (variables_of ss) x)) (all_names (equations_of ss)))))
      where
        turned : (x : Name) → not (is_among (variables_of ss) x) ≡ true → is_among (variables_of ss) x ≡ false
        turned x e = go (is_among (variables_of ss) x) e
          where
            go : (b : Bool) → not b ≡ true → b ≡ false
            go true e = absurd (cc)
            go false e = refl

    same_arity : (x : Name) → is_among (variables_of ss) x ≡ false → arity_in n.arities x ≡ arity_in (all_uses (equations_of ss)) x
    same_arity x e = st.arities x (ap (λ (vs : List Name). is_among vs x) (append-nil (variables_of ss)) ∙ e) ∙ ap (λ us. arity_in us x) (append-nil (all_uses (equations_of ss)))

    arity_few : (x : Name) → is_among (variables_of ss) x ≡ false → unwrap_or (arity_in n.arities x) 0 ≤ 8
    arity_few x e = subst (λ (o : Option ℕ). unwrap_or o 0 ≤ 8) (sym (st.arities x (ap (λ (vs : List Name). is_among vs x) (append-nil (variables_of ss)) ∙ e))) (arity_at_most (front_variables (closed_at ss)) (front_uses (closed_at ss)) x fine.uses)

    short : All (λ x. length x ≤ 64) n.symbols
    short = subst (All (λ x. length x ≤ 64)) (sym st.symbols)
        (all_firsts (λ x. length x ≤ 64) (symbols_among (front_variables (closed_at ss)) (front_names (closed_at ss)))
        (All-filter (λ x. not (is_among (front_variables (closed_at ss)) x)) (λ x. length x ≤ 64) (front_names (closed_at ss))
        (All-weaker (λ x. is_short x ≡ true) (λ x. length x ≤ 64) below (front_names (closed_at ss)) (all_tests is_short (front_names (closed_at ss)) fine.short_names))))
      where
        below : (x : Name) → is_short x ≡ true → length x ≤ 64
        below x e = few (length x) e
          where
            few : (n : ℕ) → nat_le n 64 ≡ true → n ≤ 64
            few n e = grind arith

    All-both : (xs : List Name) → All IsIdentifier xs → All (λ x. length x ≤ 64) xs → All (λ x. IsIdentifier x × (length x ≤ 64)) xs
    All-both [] h k = All-nil (λ x. IsIdentifier x × (length x ≤ 64))
    All-both (x ∷ xs) h k = All-cons (λ x. IsIdentifier x × (length x ≤ 64)) x xs (All-head IsIdentifier x xs h, All-head (λ x. length x ≤ 64) x xs k) (All-both xs (All-tail IsIdentifier x xs h) (All-tail (λ x. length x ≤ 64) x xs k))

    signature_is : map (entry_of n.arities) n.symbols ≡ map (entry_of (all_uses (equations_of ss))) (symbol_names ss)
    signature_is = map_agree (entry_of n.arities) (entry_of (all_uses (equations_of ss))) n.symbols
        (All-weaker (λ x. is_among (variables_of ss) x ≡ false) (λ x. entry_of n.arities x ≡ entry_of (all_uses (equations_of ss)) x) (λ x e. ap (λ (o : Option ℕ). record { name = x; arity = unwrap_or o 0 }) (same_arity x e)) n.symbols no_variables)
        ∙ ap (map (entry_of (all_uses (equations_of ss)))) symbols_are

pub finished : (bytes : List ℕ) (at number : ℕ) (r : Reader) (f : Found) → length bytes ≤ 1048576 → IsUtf8 bytes → (h : Reached bytes at number r) → tokens_from 0 at (drop at bytes) ≡ first_and_rest bytes f → f.form ≡ End
    → best None kinds h.front (token_at f.form (name_of bytes f)) ≡ None → Finished bytes r.notes
finished bytes at number r f b u h e k quiet =
    let end : best None kinds h.front end_of_input ≡ None = ap (λ (form : Form). best None kinds h.front (token_at form (name_of bytes f))) (sym k) ∙ quiet in
    let none : h.front.open_section ≡ None = end_open h.front end in
    let same : h.front ≡ closed_at h.front.sections = ap (λ (o : Option SectionFront). record { sections = h.front.sections; open_section = o }) none in
    finished_at bytes r.notes r.place h.front.sections b u h.is_front.sections
    (next_tokens bytes at number r f e h ∙ (λ i. h.before ++ token_at (k i) (name_of bytes f) ∷ tail_at bytes f.end (k i)) ∙ ap (λ (ts : List Token). ts ++ end_of_input ∷ []) (h.is_front.tokens_are ∙ ap (λ (o : Option SectionFront). flat_map section_tokens h.front.sections ++ open_tokens o) none ∙ append-nil _))
    (subst (Stands r.notes r.place) same h.stands) (subst Fine same h.fine) h.identifiers (end_rules h.front.sections (ap (λ (g : Front). best None kinds g end_of_input) (sym same) ∙ end))
