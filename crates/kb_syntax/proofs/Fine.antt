-- Fronts that keep the conditions and the limits: they stay so by each token that shows nothing.
use Rattle.std.proofs.Common.{append-nil, append_assoc, ◌≡◌, ◌⊎◌, ⊎_elim, refl, ap, sym, ◌∙◌, subst, arith, ℕ, zero, ◌+◌, ◌<◌, ◌≤◌, List, [], ◌∷◌, ◌++◌, Option, Some, None, Bool, true, false, cond, ◌&&◌, ◌||◌, length, length-append}
use Rattle.std.specs.Prelude.{not, nat_eq, nat_le, bytes_eq, is_some, codes}
use Rattle.std.specs.List.{list_all, list_any}
use Rattle.std.proofs.lemmas.Option.{same_Some}
use Rattle.std.proofs.lemmas.Bool.{and_from}
use Rattle.kb_lemmas.proofs.Options.{some_of_map}
use Rattle.kb_lemmas.proofs.Lists.{all_join}
use Rattle.kb_text.specs.Names.{Name, is_among, firsts, are_distinct}
use Rattle.kb_text.specs.Tokens.{Token, left_paren, right_paren, comma, identifier, end_of_input}
use Rattle.kb_text.specs.Grammar.{Written, alone, Section, variables, rules, skipped, WrittenEquation, Sign, open_after, reserved_names}
use Rattle.kb_text.specs.Fronts.{TermFront, whole, opened, within, EquationFront, in_left, behind_sign, in_right, SectionFront, begun, in_variables, in_rules, in_equation, in_skipped, Front}
use Rattle.kb_text.specs.Problems.{names_in, depth_in, is_unapplied, equations_of, variables_among, symbols_among, agree, are_ordered, is_rules}
use Rattle.kb_text.specs.Refusals.{back, Spot, spot_of, equation_spot, new_equation, side_of, awaits_term, open_parens, last_alone, ends_next, arguments_so_far, ended_alone, names_in_front, equation_names, front_variables, front_names, front_uses, front_count, is_token, is_some_and, is_new, has_other_arity, closing_clash_of, is_in_variables}
use Rattle.kb_text.specs.Machine.{next_term, next_equation, whole_equation, next_rules, next_skipped, next_section, open_at}
use Rattle.kb_syntax.specs.Moves.{names_of_token, new_variables, names_at, new_names, alone_ended, ended_use, ended_in, ended_at, new_uses, open_equations, equation_ended, new_equations, side_names}
use Rattle.kb_syntax.proofs.MoveTerms.{term_names}
use Rattle.kb_syntax.proofs.MoveSections.{equations-append, whole_is, is_whole_is, awaits_if_name, left_next}
use Rattle.kb_text.proofs.Firsts.{same_bytes}
use Rattle.kb_syntax.proofs.FineTerms.{FineTerm, FineSide, Passes, fine_term, fine_end, parens_bound}
use Rattle.kb_syntax.proofs.FineLists.{all_one, few_more, agree-push, ordered-variables, ordered-other, skipped_names, skipped-append}

abbrev pub is_short : Name → Bool
is_short x = nat_le (length x) 64

abbrev pub fine_side : List Name → Written → Bool
fine_side vars t = nat_le (length (names_in t)) 512 && (nat_le (depth_in t) 64 && is_unapplied vars t)

abbrev pub fine_equation : List Name → WrittenEquation → Bool
fine_equation vars e = fine_side vars e.left && (fine_side vars e.right && nat_le (length (firsts (variables_among vars (names_in e.left ++ names_in e.right)))) 64)

abbrev pub fine_use : List Name → Name × ℕ → Bool
fine_use vars u = nat_le u.1 8 && (not (is_among vars u.0) || nat_eq u.1 0)

abbrev pub FineSides : List Name → EquationFront → Type 0
FineSides vars (in_left u) = FineSide vars 0 u
FineSides vars (behind_sign l s) = fine_side vars l ≡ true
FineSides vars (in_right l s u) = (fine_side vars l ≡ true) × FineSide vars 0 u

pub record FineFront (vars : List Name) (e : EquationFront) : Type 0 where
  pub variables : length (firsts (variables_among vars (equation_names e))) ≤ 64
  pub size : length (side_names e) ≤ 512
  pub sides : FineSides vars e

abbrev pub FineEquation : List Name → Option SectionFront → Type 0
FineEquation vars (Some (in_equation es e)) = FineFront vars e
FineEquation vars o = Unit {0}

abbrev pub skipped_open : Option SectionFront → List Name
skipped_open (Some (in_skipped x ts)) = x ∷ []
skipped_open o = []

pub record Fine (f : Front) : Type 0 where
  pub short_variables : list_all is_short (front_variables f) ≡ true
  pub short_names : list_all is_short (front_names f) ≡ true
  pub short_skipped : list_all is_short (skipped_names f.sections ++ skipped_open f.open_section) ≡ true
  pub distinct : are_distinct (front_variables f) ≡ true
  pub agrees : agree (front_uses f) ≡ true
  pub uses : list_all (fine_use (front_variables f)) (front_uses f) ≡ true
  pub count : front_count f ≤ 256
  pub symbols : length (firsts (symbols_among (front_variables f) (front_names f))) ≤ 24
  pub equations : list_all (fine_equation (front_variables f)) (equations_of f.sections ++ open_equations f.open_section) ≡ true
  pub open_equation : FineEquation (front_variables f) f.open_section
  pub ordered : are_ordered f.sections ≡ true
  pub none_before : is_in_variables f.open_section ≡ true → list_any is_rules f.sections ≡ false

-- What a token doesn't show.
pub record Unshown (f : Front) (t : Token) : Type 0 where
  pub name : (c : Name) → t ≡ identifier c → (f.open_section ≡ Some begun) ⊎ (is_some (spot_of f.open_section) ≡ true) ⊎ (is_in_variables f.open_section ≡ true) → is_short c ≡ true
  pub word : f.open_section ≡ Some begun → t ≡ identifier (codes "VAR") → list_any is_rules f.sections ≡ false
  pub double : (c : Name) → t ≡ identifier c → is_in_variables f.open_section ≡ true → is_among (front_variables f) c ≡ false
  pub applied : (c : Name) (u : TermFront) → t ≡ left_paren → side_of f.open_section ≡ Some u → last_alone u ≡ Some c → is_among (front_variables f) c ≡ false
  pub closing : (u : TermFront) → t ≡ right_paren → side_of f.open_section ≡ Some u → closing_clash_of (front_uses f ++ ended_alone (last_alone u)) (ends_next u) ≡ None
  pub lone : (u : TermFront) → is_token t left_paren ≡ false → side_of f.open_section ≡ Some u → is_some_and (last_alone u) (λ c. has_other_arity (front_uses f) c 0) ≡ false
  pub count : (c : Name) (s : Spot) → t ≡ identifier c → spot_of f.open_section ≡ Some s → (s.begins && nat_eq (front_count f) 256) ≡ false
  pub size : (c : Name) (s : Spot) → t ≡ identifier c → spot_of f.open_section ≡ Some s → nat_eq (length s.side) 512 ≡ false
  pub depth : (c : Name) (s : Spot) → t ≡ identifier c → spot_of f.open_section ≡ Some s → nat_eq s.parens 64 ≡ false
  pub symbols : (c : Name) (s : Spot) → t ≡ identifier c → spot_of f.open_section ≡ Some s → (is_new c (symbols_among (front_variables f) (front_names f)) 24 && not (is_among (front_variables f) c)) ≡ false
  pub variables : (c : Name) (s : Spot) → t ≡ identifier c → spot_of f.open_section ≡ Some s → (is_new c (variables_among (front_variables f) s.equation) 64 && is_among (front_variables f) c) ≡ false
  pub arity : (u : TermFront) → t ≡ comma → side_of f.open_section ≡ Some u → arguments_so_far u ≡ 8 → ⊥

abbrev pub is_equation : Option SectionFront → Bool
is_equation (Some (in_equation es e)) = true
is_equation o = false

-- ---- names that come

-- a token adds nothing, or it is a name
pub only_name : (t : Token) (p : Name → Bool) → ((c : Name) → t ≡ identifier c → p c ≡ true) → list_all p (names_of_token t) ≡ true
only_name (identifier c) p h = all_one p c (h c refl)
only_name t p h = refl

pub new_short : (o : Option SectionFront) (t : Token) → ((c : Name) → t ≡ identifier c → is_some (spot_of o) ≡ true → is_short c ≡ true) → list_all is_short (new_names o t) ≡ true
new_short o t h = go (spot_of o) refl
  where
    go : (s : Option Spot) → spot_of o ≡ s → list_all is_short (names_at s t) ≡ true
    go None e = refl
    go (Some s) e = only_name t is_short (λ c k. h c k (ap is_some e))

variables_short : (o : Option SectionFront) (t : Token) → ((c : Name) → t ≡ identifier c → is_in_variables o ≡ true → is_short c ≡ true) → list_all is_short (new_variables o t) ≡ true
variables_short (Some (in_variables xs)) t h = only_name t is_short (λ c k. h c k refl)
variables_short None t h = refl
variables_short (Some begun) t h = refl
variables_short (Some in_rules) t h = refl
variables_short (Some (in_equation es e)) t h = refl
variables_short (Some (in_skipped x ts)) t h = refl

-- the names of skipped sections
pub skipped_moves : (ss : List Section) (o : Option SectionFront) (t : Token) (g : Front) → next_section ss o t ≡ Some g → ((c : Name) → t ≡ identifier c → o ≡ Some begun → is_short c ≡ true)
    → list_all is_short (skipped_names ss ++ skipped_open o) ≡ true → list_all is_short (skipped_names g.sections ++ skipped_open g.open_section) ≡ true
skipped_moves ss o t g h k a = go o t h k a
  where
    Next : Front → Type 0
    Next g = list_all is_short (skipped_names g.sections ++ skipped_open g.open_section) ≡ true

    plain : list_all is_short (skipped_names ss ++ []) ≡ true → list_all is_short (skipped_names ss) ≡ true
    plain a = ap (list_all is_short) (sym (append-nil (skipped_names ss))) ∙ a

    closed : (s : Section) → skipped_names (s ∷ []) ≡ [] → list_all is_short (skipped_names ss ++ []) ≡ true → Next (record { sections = ss ++ s ∷ []; open_section = None })
    closed s e a = ap (list_all is_short) (append-nil _ ∙ skipped-append ss (s ∷ []) ∙ ap (skipped_names ss ++◌) e) ∙ a

    word : (x : Name) → is_short x ≡ true → list_all is_short (skipped_names ss ++ []) ≡ true → (a b d : Bool) → open_at ss (cond a (Some (in_variables [])) (cond b (Some in_rules) (cond d None (Some (in_skipped x []))))) ≡ Some g → Next g
    word x s p true b d h = subst Next (same_Some _ g h) p
    word x s p false true d h = subst Next (same_Some _ g h) p
    word x s p false false true h = absurd (cc)
    word x s p false false false h = subst Next (same_Some _ g h) (all_join is_short (skipped_names ss) (x ∷ []) (plain p) (all_one is_short x s))

    in_equations : (es : List WrittenEquation) (e : EquationFront) (t : Token) (w : Option WrittenEquation) (n : Option EquationFront) → next_rules ss es e t w n ≡ Some g → list_all is_short (skipped_names ss ++ []) ≡ true → Next g
    in_equations es e t w (Some n) h p = subst Next (same_Some (record { sections = ss; open_section = Some (in_equation es n) }) g h) p
    in_equations es e (identifier c) (Some w) None h p = subst Next (same_Some (record { sections = ss; open_section = Some (in_equation (es ++ w ∷ []) (in_left (whole (alone c)))) }) g h) p
    in_equations es e right_paren (Some w) None h p = subst Next (same_Some (record { sections = ss ++ rules (es ++ w ∷ []) ∷ []; open_section = None }) g h) (closed (rules (es ++ w ∷ [])) refl p)
    in_equations es e t w None h p = absurd (cc)

    in_skip : (x : Name) (ts : List Token) (t : Token) (n : Option ℕ) → next_skipped ss x ts t n ≡ Some g → list_all is_short (skipped_names ss ++ x ∷ []) ≡ true → Next g
    in_skip x ts right_paren (Some zero) h p = subst Next (same_Some (record { sections = ss ++ skipped x ts ∷ []; open_section = None }) g h) (ap (list_all is_short) (append-nil _ ∙ skipped-append ss (skipped x ts ∷ [])) ∙ p)
    in_skip x ts end_of_input n h p = absurd (cc)
    in_skip x ts t n h p = subst Next (same_Some (record { sections = ss; open_section = Some (in_skipped x (ts ++ t ∷ [])) }) g h) p

    go : (o : Option SectionFront) (t : Token) → next_section ss o t ≡ Some g → ((c : Name) → t ≡ identifier c → o ≡ Some begun → is_short c ≡ true) → list_all is_short (skipped_names ss ++ skipped_open o) ≡ true → Next g
    go None left_paren h k a = subst Next (same_Some (record { sections = ss; open_section = Some begun }) g h) a
    go None t h k a = absurd (cc)
    go (Some begun) (identifier x) h k a = word x (k x refl refl) a (bytes_eq x (codes "VAR")) (bytes_eq x (codes "RULES")) (is_among reserved_names x) h
    go (Some begun) t h k a = absurd (cc)
    go (Some (in_variables xs)) (identifier x) h k a = subst Next (same_Some (record { sections = ss; open_section = Some (in_variables (xs ++ x ∷ [])) }) g h) a
    go (Some (in_variables xs)) right_paren h k a = subst Next (same_Some (record { sections = ss ++ variables xs ∷ []; open_section = None }) g h) (closed (variables xs) refl a)
    go (Some (in_variables xs)) t h k a = absurd (cc)
    go (Some in_rules) (identifier x) h k a = subst Next (same_Some (record { sections = ss; open_section = Some (in_equation [] (in_left (whole (alone x)))) }) g h) a
    go (Some in_rules) right_paren h k a = subst Next (same_Some (record { sections = ss ++ rules [] ∷ []; open_section = None }) g h) (closed (rules []) refl a)
    go (Some in_rules) t h k a = absurd (cc)
    go (Some (in_equation es e)) t h k a = in_equations es e t (whole_equation e) (next_equation e t) h a
    go (Some (in_skipped x ts)) t h k a = in_skip x ts t (open_after 0 ts) h a

-- ---- uses that end

ended_fine : (vars : List Name) (uses : List (Name × ℕ)) (u : TermFront) (t : Token) → FineSide vars 0 u
    → (t ≡ right_paren → closing_clash_of (uses ++ ended_alone (last_alone u)) (ends_next u) ≡ None) → (is_token t left_paren ≡ false → is_some_and (last_alone u) (λ c. has_other_arity uses c 0) ≡ false)
    → agree uses ≡ true → (agree (uses ++ ended_in u t) ≡ true) × (list_all (fine_use vars) (ended_in u t) ≡ true)
ended_fine vars uses u t fine closing lone h = (agree_all, all_join (fine_use vars) (alone_ended u t) (ended_use (ends_next u) t) alone_fine closing_fine)
  where
    or_true : (b : Bool) → (b || true) ≡ true
    or_true true = refl
    or_true false = refl

    alone_part : (o : Option Name) → is_some_and o (λ c. has_other_arity uses c 0) ≡ false → agree (uses ++ ended_alone o) ≡ true
    alone_part None k = ap agree (append-nil uses) ∙ h
    alone_part (Some c) k = agree-push uses c 0 h k

    one_use : (c : Name) → fine_use vars (c, 0) ≡ true
    one_use c = or_true (not (is_among vars c))

    alone_agrees : (b : Bool) → is_token t left_paren ≡ b → agree (uses ++ cond b [] (ended_alone (last_alone u))) ≡ true
    alone_agrees true e = ap agree (append-nil uses) ∙ h
    alone_agrees false e = alone_part (last_alone u) (lone e)

    alone_fine : list_all (fine_use vars) (alone_ended u t) ≡ true
    alone_fine = go (is_token t left_paren) (last_alone u)
      where
        go : (b : Bool) (o : Option Name) → list_all (fine_use vars) (cond b [] (ended_alone o)) ≡ true
        go true o = refl
        go false None = refl
        go false (Some c) = all_one (fine_use vars) (c, 0) (one_use c)

    at_paren : (t : Token) → is_token t right_paren ≡ true → t ≡ right_paren
    at_paren right_paren e = refl
    at_paren t e = absurd (cc)

    not_left : (t : Token) → is_token t right_paren ≡ true → is_token t left_paren ≡ false
    not_left right_paren e = refl
    not_left t e = absurd (cc)

    closing_use : (a : Name × ℕ × ℕ) → ends_next u ≡ Some a → fine_use vars (a.0, a.1) ≡ true
    closing_use a e = let r = fine_end vars u 0 a fine e in and_from _ _ (below a.1 r.0) (ap (λ (b : Bool). not b || nat_eq a.1 0) r.1)
      where
        below : (n : ℕ) → n ≤ 8 → nat_le n 8 ≡ true
        below n k = grind arith

    closing_at : (o : Option (Name × ℕ × ℕ)) → ends_next u ≡ o → (b : Bool) → is_token t right_paren ≡ b → list_all (fine_use vars) (ended_use o t) ≡ true
    closing_at None e b k = refl
    closing_at (Some a) e true k = ap (λ (b : Bool). list_all (fine_use vars) (cond b ((a.0, a.1) ∷ []) [])) k ∙ all_one (fine_use vars) (a.0, a.1) (closing_use a e)
    closing_at (Some a) e false k = ap (λ (b : Bool). list_all (fine_use vars) (cond b ((a.0, a.1) ∷ []) [])) k

    closing_fine : list_all (fine_use vars) (ended_use (ends_next u) t) ≡ true
    closing_fine = closing_at (ends_next u) refl (is_token t right_paren) refl

    not_back : (b : Bool) (k : ℕ) → back b k ≡ None → b ≡ false
    not_back true k e = absurd (cc)
    not_back false k e = refl

    before : List (Name × ℕ)
    before = uses ++ alone_ended u t

    agree_at : (o : Option (Name × ℕ × ℕ)) → ends_next u ≡ o → (b : Bool) → is_token t right_paren ≡ b → agree (before ++ ended_use o t) ≡ true
    agree_at None e b k = ap agree (append-nil before) ∙ alone_agrees (is_token t left_paren) refl
    agree_at (Some a) e false k = ap (λ (b : Bool). agree (before ++ cond b ((a.0, a.1) ∷ []) [])) k ∙ ap agree (append-nil before) ∙ alone_agrees (is_token t left_paren) refl
    agree_at (Some a) e true k =
        let same : before ≡ uses ++ ended_alone (last_alone u) = ap (λ (b : Bool). uses ++ cond b [] (ended_alone (last_alone u))) (not_left t k) in
        let other : closing_clash_of (uses ++ ended_alone (last_alone u)) (Some a) ≡ None = ap (closing_clash_of (uses ++ ended_alone (last_alone u))) (sym e) ∙ closing (at_paren t k) in
        ap (λ (b : Bool). agree (before ++ cond b ((a.0, a.1) ∷ []) [])) k
        ∙ agree-push before a.0 a.1 (alone_agrees (is_token t left_paren) refl) (ap (λ (us : List (Name × ℕ)). has_other_arity us a.0 a.1) same ∙ not_back (has_other_arity (uses ++ ended_alone (last_alone u)) a.0 a.1) a.2 other)

    agree_all : agree (uses ++ ended_in u t) ≡ true
    agree_all = ap agree (sym (append_assoc uses (alone_ended u t) (ended_use (ends_next u) t))) ∙ agree_at (ends_next u) refl (is_token t right_paren) refl

-- the side of a fine equation is fine
pub side_fine : (vars : List Name) (o : Option SectionFront) (u : TermFront) → FineEquation vars o → side_of o ≡ Some u → FineSide vars 0 u
side_fine vars None u h e = absurd (cc)
side_fine vars (Some begun) u h e = absurd (cc)
side_fine vars (Some (in_variables xs)) u h e = absurd (cc)
side_fine vars (Some in_rules) u h e = absurd (cc)
side_fine vars (Some (in_equation es (in_left v))) u h e = subst (FineSide vars 0) (same_Some v u e) h.sides
side_fine vars (Some (in_equation es (behind_sign l s))) u h e = absurd (cc)
side_fine vars (Some (in_equation es (in_right l s v))) u h e = subst (FineSide vars 0) (same_Some v u e) h.sides.1
side_fine vars (Some (in_skipped x ts)) u h e = absurd (cc)

pub uses_fine : (f : Front) (t : Token) → Fine f → Unshown f t → (agree (front_uses f ++ new_uses f.open_section t) ≡ true) × (list_all (fine_use (front_variables f)) (front_uses f ++ new_uses f.open_section t) ≡ true)
uses_fine f t h n = go (side_of f.open_section) refl
  where
    go : (o : Option TermFront) → side_of f.open_section ≡ o → (agree (front_uses f ++ ended_at o t) ≡ true) × (list_all (fine_use (front_variables f)) (front_uses f ++ ended_at o t) ≡ true)
    go None e = (ap agree (append-nil (front_uses f)) ∙ h.agrees, ap (list_all (fine_use (front_variables f))) (append-nil (front_uses f)) ∙ h.uses)
    go (Some u) e =
        let r = ended_fine (front_variables f) (front_uses f) u t (side_fine (front_variables f) f.open_section u h.open_equation e) (λ k. n.closing u k e) (λ k. n.lone u k e) h.agrees in
        (r.0, all_join (fine_use (front_variables f)) (front_uses f) (ended_in u t) h.uses r.1)

-- ---- names of equations

pub few_names : (f : Front) (t : Token) → Fine f → Unshown f t → length (firsts (symbols_among (front_variables f) (front_names f ++ new_names f.open_section t))) ≤ 24
few_names f t h n = go (spot_of f.open_section) refl t refl
  where
    is_symbol : Name → Bool
    is_symbol x = not (is_among (front_variables f) x)

    same : length (firsts (symbols_among (front_variables f) (front_names f ++ []))) ≤ 24
    same = subst (λ (ns : List Name). length (firsts (symbols_among (front_variables f) ns)) ≤ 24) (sym (append-nil (front_names f))) h.symbols

    go : (s : Option Spot) → spot_of f.open_section ≡ s → (u : Token) → t ≡ u → length (firsts (symbols_among (front_variables f) (front_names f ++ names_at s u))) ≤ 24
    go None e u k = same
    go (Some s) e (identifier c) k = few_more (λ x. not (is_among (front_variables f) x)) (front_names f) c 24 h.symbols (n.symbols c s k e)
    go (Some s) e u k = same

-- ---- equations

whole_fine : (vars : List Name) (e : EquationFront) (w : WrittenEquation) → FineFront vars e → whole_equation e ≡ Some w → fine_equation vars w ≡ true
whole_fine vars e w h k =
    let r = whole_is e w k in
    let fine : FineFront vars (in_right w.left w.sign (whole r.side)) = subst (FineFront vars) r.is h in
    let right : fine_side vars w.right ≡ true = subst (λ (t : Written). fine_side vars t ≡ true) r.right (and_from _ _ (below (length (names_in r.side)) 512 fine.size) (and_from _ _ (below (depth_in r.side) 64 (omega (arith, fine.sides.1.depth))) fine.sides.1.unapplied)) in
    let few : nat_le (length (firsts (variables_among vars (names_in w.left ++ names_in w.right)))) 64 ≡ true = subst (λ (t : Written). nat_le (length (firsts (variables_among vars (names_in w.left ++ names_in t)))) 64 ≡ true) r.right (below _ 64 fine.variables) in
    and_from _ _ fine.sides.0 (and_from _ _ right few)
  where
    below : (m n : ℕ) → m ≤ n → nat_le m n ≡ true
    below m n h = grind arith

pub ended_equations : (vars : List Name) (o : Option SectionFront) (t : Token) → FineEquation vars o → list_all (fine_equation vars) (new_equations o t) ≡ true
ended_equations vars None t h = refl
ended_equations vars (Some begun) t h = refl
ended_equations vars (Some (in_variables xs)) t h = refl
ended_equations vars (Some in_rules) t h = refl
ended_equations vars (Some (in_skipped x ts)) t h = refl
ended_equations vars (Some (in_equation es e)) t h = go (whole_equation e) refl t
  where
    go : (w : Option WrittenEquation) → whole_equation e ≡ w → (t : Token) → list_all (fine_equation vars) (equation_ended w t) ≡ true
    go None k t = refl
    go (Some w) k (identifier c) = all_one (fine_equation vars) w (whole_fine vars e w h k)
    go (Some w) k right_paren = all_one (fine_equation vars) w (whole_fine vars e w h k)
    go (Some w) k t = refl

-- what the tests of a token let through, within a side
passes : (f : Front) (t : Token) (u : TermFront) → Fine f → Unshown f t → side_of f.open_section ≡ Some u → ((c : Name) → t ≡ identifier c → (s : Spot) × (spot_of f.open_section ≡ Some s) × (s.parens ≡ open_parens u)) → ((c : Name) → t ≡ identifier c → awaits_term u ≡ true) → Passes (front_variables f) 0 u t
passes f t u h n e spot awaits = record {
  name = λ c k.
      let r = spot c k in
      let ne = n.depth c r.0 k r.1 in
      let bound = parens_bound (front_variables f) 0 u (side_fine (front_variables f) f.open_section u h.open_equation e) (awaits c k) in
      less (open_parens u) bound (ap (λ (p : ℕ). nat_eq p 64) (sym r.2) ∙ ne);
  paren = λ c k a. n.applied c u k e a;
  comma = λ k. n.arity u k e;
}
  where
    less : (p : ℕ) → 0 + p ≤ 64 → nat_eq p 64 ≡ false → 0 + p < 64
    less p b e = grind arith

-- the first name of an equation
begun_fine : (vars : List Name) (c : Name) → FineFront vars (in_left (whole (alone c)))
begun_fine vars c = record { variables = one (is_among vars c); size = omega arith; sides = record { depth = omega arith; unapplied = refl } }
  where
    one : (b : Bool) → length (firsts (cond b (c ∷ []) [])) ≤ 64
    one true = omega arith
    one false = omega arith

-- one more name of an equation, where there aren't 64 different ones
few_variables : (vars names more : List Name) (t : Token) → length (firsts (variables_among vars names)) ≤ 64 → more ≡ names ++ names_of_token t
    → ((c : Name) → t ≡ identifier c → (is_new c (variables_among vars names) 64 && is_among vars c) ≡ false) → length (firsts (variables_among vars more)) ≤ 64
few_variables vars names more t h e k = subst (λ (ns : List Name). length (firsts (variables_among vars ns)) ≤ 64) (sym e) (go t k)
  where
    go : (t : Token) → ((c : Name) → t ≡ identifier c → (is_new c (variables_among vars names) 64 && is_among vars c) ≡ false) → length (firsts (variables_among vars (names ++ names_of_token t))) ≤ 64
    go (identifier c) k = few_more (is_among vars) names c 64 h (k c refl)
    go t k = subst (λ (ns : List Name). length (firsts (variables_among vars ns)) ≤ 64) (sym (append-nil names)) h

few_in_side : (names more : List Name) (t : Token) → length names ≤ 512 → more ≡ names ++ names_of_token t → ((c : Name) → t ≡ identifier c → nat_eq (length names) 512 ≡ false) → length more ≤ 512
few_in_side names more t h e k = omega (arith, ap length e, length-append names (names_of_token t), go t k)
  where
    less : (n : ℕ) → n ≤ 512 → nat_eq n 512 ≡ false → n < 512
    less n b e = grind arith

    go : (t : Token) → ((c : Name) → t ≡ identifier c → nat_eq (length names) 512 ≡ false) → length names + length (names_of_token t) ≤ 512
    go (identifier c) k = let l = less (length names) h (k c refl) in omega (arith, l)
    go t k = omega (arith, h)

-- where a name goes on in a side, its spot is there
pub record HasSpot (o : Option Spot) (side equation : List Name) (parens : ℕ) : Type 0 where
  pub spot : Spot
  pub is : o ≡ Some spot
  pub side_is : spot.side ≡ side
  pub equation_is : spot.equation ≡ equation
  pub parens_is : spot.parens ≡ parens

pub left_spot : (u : TermFront) → awaits_term u ≡ true → HasSpot (equation_spot (in_left u)) (names_in_front u) (names_in_front u) (open_parens u)
left_spot u e = record { spot = record { begins = false; side = names_in_front u; equation = names_in_front u; parens = open_parens u }; is = ap (λ (b : Bool). cond b (Some (record { begins = false; side = names_in_front u; equation = names_in_front u; parens = open_parens u })) None) e; side_is = refl; equation_is = refl; parens_is = refl }

pub right_spot : (l : Written) (s : Sign) (u : TermFront) → awaits_term u ≡ true → HasSpot (equation_spot (in_right l s u)) (names_in_front u) (names_in l ++ names_in_front u) (open_parens u)
right_spot l s u e = record { spot = record { begins = false; side = names_in_front u; equation = names_in l ++ names_in_front u; parens = open_parens u }; is = ap (λ (b : Bool). Some (cond b (record { begins = false; side = names_in_front u; equation = names_in l ++ names_in_front u; parens = open_parens u }) new_equation)) e; side_is = refl; equation_is = refl; parens_is = refl }

-- one more token within a side
side_goes_on : (ss : List Section) (es : List WrittenEquation) (e : EquationFront) (t : Token) (u v : TermFront) (names : List Name)
    → Fine (record { sections = ss; open_section = Some (in_equation es e) }) → Unshown (record { sections = ss; open_section = Some (in_equation es e) }) t
    → side_of (Some (in_equation es e)) ≡ Some u → side_names e ≡ names_in_front u → next_term u t ≡ Some v
    → (awaits_term u ≡ true → HasSpot (equation_spot e) (names_in_front u) (equation_names e) (open_parens u))
    → (more : List Name) → more ≡ equation_names e ++ names_of_token t
    → (length (firsts (variables_among (front_variables (record { sections = ss; open_section = Some (in_equation es e) })) more)) ≤ 64) × (length (names_in_front v) ≤ 512) × FineSide (front_variables (record { sections = ss; open_section = Some (in_equation es e) })) 0 v
side_goes_on ss es e t u v names h n side size next spot more is = (
  few_variables vars (equation_names e) more t h.open_equation.variables is (λ c k. let r = found c k in ap (λ (ns : List Name). is_new c (variables_among vars ns) 64 && is_among vars c) (sym r.equation_is) ∙ n.variables c r.spot k r.is),
  few_in_side (names_in_front u) (names_in_front v) t (subst (λ (ns : List Name). length ns ≤ 512) size h.open_equation.size) (term_names u v t next) (λ c k. let r = found c k in ap (λ (ns : List Name). nat_eq (length ns) 512) (sym r.side_is) ∙ n.size c r.spot k r.is),
  fine_term vars u v 0 t next (side_fine vars (Some (in_equation es e)) u h.open_equation side) (passes f t u h n side (λ c k. let r = found c k in (r.spot, r.is, r.parens_is)) named),
)
  where
    f : Front
    f = record { sections = ss; open_section = Some (in_equation es e) }

    vars : List Name
    vars = front_variables f

    named : (c : Name) → t ≡ identifier c → awaits_term u ≡ true
    named c k = awaits_if_name u v c (ap (next_term u) (sym k) ∙ next)

    found : (c : Name) → t ≡ identifier c → HasSpot (equation_spot e) (names_in_front u) (equation_names e) (open_parens u)
    found c k = spot (named c k)

goes_on_fine : (ss : List Section) (es : List WrittenEquation) (e after : EquationFront) (t : Token)
    → Fine (record { sections = ss; open_section = Some (in_equation es e) }) → Unshown (record { sections = ss; open_section = Some (in_equation es e) }) t → next_equation e t ≡ Some after
    → FineFront (front_variables (record { sections = ss; open_section = Some (in_equation es e) })) after
goes_on_fine ss es (in_left u) after t h n k = ⊎_elim
    (λ a. let r = side_goes_on ss es (in_left u) t u a.0 [] h n refl refl a.1 (left_spot u) (names_in_front a.0) (term_names u a.0 t a.1) in
    subst (FineFront vars) a.2 (record { variables = r.0; size = r.1; sides = r.2 }))
    (λ a. let is = is_whole_is u a.0 a.2 in
    let fine : FineTerm vars 0 a.0 = subst (FineSide vars 0) is h.open_equation.sides in
    subst (FineFront vars) a.4 (record {
      variables = subst (λ (v : TermFront). length (firsts (variables_among vars (names_in_front v))) ≤ 64) is h.open_equation.variables;
      size = omega arith;
      sides = and_from _ _ (below (length (names_in a.0)) 512 (subst (λ (v : TermFront). length (names_in_front v) ≤ 512) is h.open_equation.size)) (and_from _ _ (below (depth_in a.0) 64 (omega (arith, fine.depth))) fine.unapplied);
    }))
    (left_next u t after k)
  where
    vars : List Name
    vars = front_variables (record { sections = ss; open_section = Some (in_equation es (in_left u)) })

    below : (m n : ℕ) → m ≤ n → nat_le m n ≡ true
    below m n h = grind arith
goes_on_fine ss es (behind_sign l s) after (identifier c) h n k =
    subst (FineFront vars) (same_Some (in_right l s (whole (alone c))) after k) (record {
      variables = few_variables vars (names_in l) (names_in l ++ c ∷ []) (identifier c) h.open_equation.variables refl (λ d e. n.variables d (record { begins = false; side = []; equation = names_in l; parens = 0 }) e refl);
      size = omega arith;
      sides = (h.open_equation.sides, record { depth = omega arith; unapplied = refl });
    })
  where
    vars : List Name
    vars = front_variables (record { sections = ss; open_section = Some (in_equation es (behind_sign l s)) })
goes_on_fine ss es (behind_sign l s) after t h n k = absurd (cc)
goes_on_fine ss es (in_right l s u) after t h n k =
    let r = some_of_map (in_right l s) (next_term u t) after k in
    let q = side_goes_on ss es (in_right l s u) t u r.0 [] h n refl refl r.1 (right_spot l s u) (names_in l ++ names_in_front r.0) (ap (names_in l ++◌) (term_names u r.0 t r.1) ∙ sym (append_assoc (names_in l) (names_in_front u) (names_of_token t))) in
    subst (FineFront (front_variables (record { sections = ss; open_section = Some (in_equation es (in_right l s u)) }))) r.2 (record { variables = q.0; size = q.1; sides = (h.open_equation.sides.0, q.2) })

-- ---- the parts of the next front

-- its open equation, its sections' order, and its count
pub record NextParts (f : Front) (g : Front) : Type 0 where
  pub open_equation : FineEquation (front_variables f) g.open_section
  pub ordered : are_ordered g.sections ≡ true
  pub none_before : is_in_variables g.open_section ≡ true → list_any is_rules g.sections ≡ false
  pub count : front_count g ≤ 256

-- nothing closes, and no equation begins
same_parts : (ss : List Section) (o p : Option SectionFront) → Fine (record { sections = ss; open_section = o }) → FineEquation (front_variables (record { sections = ss; open_section = o })) p
    → (is_in_variables p ≡ true → list_any is_rules ss ≡ false) → front_count (record { sections = ss; open_section = p }) ≤ front_count (record { sections = ss; open_section = o }) → NextParts (record { sections = ss; open_section = o }) (record { sections = ss; open_section = p })
same_parts ss o p h a b c = record { open_equation = a; ordered = h.ordered; none_before = b; count = omega (arith, c, h.count) }

-- a section closes
closed_parts : (ss : List Section) (o : Option SectionFront) (s : Section) → Fine (record { sections = ss; open_section = o }) → are_ordered (ss ++ s ∷ []) ≡ true → front_count (record { sections = ss ++ s ∷ []; open_section = None }) ≤ front_count (record { sections = ss; open_section = o }) → NextParts (record { sections = ss; open_section = o }) (record { sections = ss ++ s ∷ []; open_section = None })
closed_parts ss o s h a c = record { open_equation = tt; ordered = a; none_before = λ e. absurd (cc); count = omega (arith, c, h.count) }

pub closed_count : (ss : List Section) (s : Section) → length (equations_of (ss ++ s ∷ [])) ≡ length (equations_of ss) + length (equations_of (s ∷ []))
closed_count ss s = omega (arith, ap length (equations-append ss (s ∷ [])), length-append (equations_of ss) (equations_of (s ∷ [])))

fewer : (n : ℕ) → n ≤ 256 → nat_eq n 256 ≡ false → n + 1 ≤ 256
fewer n b e = grind arith

pub next_parts : (ss : List Section) (o : Option SectionFront) (t : Token) (g : Front) → Fine (record { sections = ss; open_section = o }) → Unshown (record { sections = ss; open_section = o }) t → next_section ss o t ≡ Some g → NextParts (record { sections = ss; open_section = o }) g
next_parts ss None left_paren g h n k = subst (NextParts (record { sections = ss; open_section = None })) (same_Some _ g k) (same_parts ss None (Some begun) h tt (λ e. absurd (cc)) (omega arith))
next_parts ss None t g h n k = absurd (cc)
next_parts ss (Some begun) (identifier x) g h n k = go (bytes_eq x (codes "VAR")) refl (bytes_eq x (codes "RULES")) (is_among reserved_names x) k
  where
    f : Front
    f = record { sections = ss; open_section = Some begun }

    go : (a : Bool) → bytes_eq x (codes "VAR") ≡ a → (b d : Bool) → open_at ss (cond a (Some (in_variables [])) (cond b (Some in_rules) (cond d None (Some (in_skipped x []))))) ≡ Some g → NextParts f g
    go true e b d k = subst (NextParts f) (same_Some _ g k) (same_parts ss (Some begun) (Some (in_variables [])) h tt (λ q. n.word refl (ap identifier (same_bytes x (codes "VAR") e))) (omega arith))
    go false e true d k = subst (NextParts f) (same_Some _ g k) (same_parts ss (Some begun) (Some in_rules) h tt (λ q. absurd (cc)) (omega arith))
    go false e false true k = absurd (cc)
    go false e false false k = subst (NextParts f) (same_Some _ g k) (same_parts ss (Some begun) (Some (in_skipped x [])) h tt (λ q. absurd (cc)) (omega arith))
next_parts ss (Some begun) t g h n k = absurd (cc)
next_parts ss (Some (in_variables xs)) (identifier x) g h n k = subst (NextParts (record { sections = ss; open_section = Some (in_variables xs) })) (same_Some _ g k) (same_parts ss (Some (in_variables xs)) (Some (in_variables (xs ++ x ∷ []))) h tt (λ q. h.none_before refl) (omega arith))
next_parts ss (Some (in_variables xs)) right_paren g h n k = subst (NextParts (record { sections = ss; open_section = Some (in_variables xs) })) (same_Some _ g k) (closed_parts ss (Some (in_variables xs)) (variables xs) h (ordered-variables ss xs (h.none_before refl)) (let c = closed_count ss (variables xs) in omega (arith, c)))
next_parts ss (Some (in_variables xs)) t g h n k = absurd (cc)
next_parts ss (Some in_rules) (identifier x) g h n k = subst (NextParts (record { sections = ss; open_section = Some in_rules })) (same_Some _ g k) (record {
  open_equation = begun_fine (front_variables (record { sections = ss; open_section = Some in_rules })) x;
  ordered = h.ordered;
  none_before = λ q. absurd (cc);
  count = let c = fewer (front_count (record { sections = ss; open_section = Some in_rules })) h.count (n.count x _ refl refl) in omega (arith, c);
})
next_parts ss (Some in_rules) right_paren g h n k = subst (NextParts (record { sections = ss; open_section = Some in_rules })) (same_Some _ g k) (closed_parts ss (Some in_rules) (rules []) h (ordered-other ss (rules []) refl h.ordered) (let c = closed_count ss (rules []) in omega (arith, c)))
next_parts ss (Some in_rules) t g h n k = absurd (cc)
next_parts ss (Some (in_equation es e)) t g h n k = go t n (whole_equation e) refl (next_equation e t) refl k
  where
    f : Front
    f = record { sections = ss; open_section = Some (in_equation es e) }

    begins : (e : EquationFront) (w : WrittenEquation) → whole_equation e ≡ Some w → (s : Spot) × (equation_spot e ≡ Some s) × (s.begins ≡ true)
    begins (in_left u) w q = absurd (cc)
    begins (behind_sign l s) w q = absurd (cc)
    begins (in_right l s (whole r)) w q = (_, refl, refl)
    begins (in_right l s (opened a more)) w q = absurd (cc)
    begins (in_right l s (within a more u)) w q = absurd (cc)

    go : (t : Token) → Unshown f t → (w : Option WrittenEquation) → whole_equation e ≡ w → (m : Option EquationFront) → next_equation e t ≡ m → next_rules ss es e t w m ≡ Some g → NextParts f g
    go t n w p (Some after) q k = subst (NextParts f) (same_Some (record { sections = ss; open_section = Some (in_equation es after) }) g k) (same_parts ss (Some (in_equation es e)) (Some (in_equation es after)) h (goes_on_fine ss es e after t h n q) (λ r. absurd (cc)) (omega arith))
    go (identifier c) n (Some w) p None q k =
        let b = begins e w p in
        let few : nat_eq (front_count f) 256 ≡ false = ap (λ (x : Bool). x && nat_eq (front_count f) 256) (sym b.2) ∙ n.count c b.0 refl b.1 in
        subst (NextParts f) (same_Some (record { sections = ss; open_section = Some (in_equation (es ++ w ∷ []) (in_left (whole (alone c)))) }) g k) (record {
          open_equation = begun_fine (front_variables f) c;
          ordered = h.ordered;
          none_before = λ r. absurd (cc);
          count = let c = fewer (front_count f) h.count few in omega (arith, c, length-append es (w ∷ []));
        })
    go right_paren n (Some w) p None q k = subst (NextParts f) (same_Some (record { sections = ss ++ rules (es ++ w ∷ []) ∷ []; open_section = None }) g k)
        (closed_parts ss (Some (in_equation es e)) (rules (es ++ w ∷ [])) h (ordered-other ss (rules (es ++ w ∷ [])) refl h.ordered) (let c = closed_count ss (rules (es ++ w ∷ [])) in omega (arith, c, length-append es (w ∷ []), length-append (es ++ w ∷ []) [])))
    go t n w p None q k = absurd (cc)
next_parts ss (Some (in_skipped x ts)) t g h n k = go t (open_after 0 ts) k
  where
    f : Front
    f = record { sections = ss; open_section = Some (in_skipped x ts) }

    go : (t : Token) (m : Option ℕ) → next_skipped ss x ts t m ≡ Some g → NextParts f g
    go right_paren (Some zero) k = subst (NextParts f) (same_Some (record { sections = ss ++ skipped x ts ∷ []; open_section = None }) g k) (closed_parts ss (Some (in_skipped x ts)) (skipped x ts) h (ordered-other ss (skipped x ts) refl h.ordered) (let c = closed_count ss (skipped x ts) in omega (arith, c)))
    go end_of_input m k = absurd (cc)
    go t m k = subst (NextParts f) (same_Some (record { sections = ss; open_section = Some (in_skipped x (ts ++ t ∷ [])) }) g k) (same_parts ss (Some (in_skipped x ts)) (Some (in_skipped x (ts ++ t ∷ []))) h tt (λ r. absurd (cc)) (omega arith))
