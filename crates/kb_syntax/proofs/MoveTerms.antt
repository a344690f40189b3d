-- What one more token of a term adds to its names and its uses.
use Rattle.std.proofs.Common.{append-nil, append_assoc, ◌≡◌, refl, ap, sym, ◌∙◌, subst, arith, ◌+◌, List, [], ◌∷◌, ◌++◌, Some}
use Rattle.std.proofs.lemmas.Option.{same_Some}
use Rattle.kb_lemmas.proofs.Options.{some_of_map}
use Rattle.kb_text.specs.Names.{Name}
use Rattle.kb_text.specs.Tokens.{Token, left_paren, right_paren, comma, identifier}
use Rattle.kb_text.specs.Grammar.{Written, alone, applied, Arguments, no_arguments, argument}
use Rattle.kb_text.specs.Fronts.{TermFront, whole, opened, within}
use Rattle.kb_text.specs.Problems.{names_in, names_in_all, uses_in, uses_in_all, count_of}
use Rattle.kb_text.specs.Refusals.{names_in_front, uses_in_front, last_alone, ended_alone}
use Rattle.kb_text.specs.Machine.{next_term, with_last, behind_argument}
use Rattle.kb_syntax.specs.Moves.{names_of_token, ended_in}

names-with_last : (ts : Arguments) (t : Written) → names_in_all (with_last ts t) ≡ names_in_all ts ++ names_in t
names-with_last no_arguments t = append-nil (names_in t)
names-with_last (argument u us) t = ap (names_in u ++◌) (names-with_last us t) ∙ sym (append_assoc (names_in u) (names_in_all us) (names_in t))

pub uses-with_last : (ts : Arguments) (t : Written) → uses_in_all (with_last ts t) ≡ uses_in_all ts ++ uses_in t
uses-with_last no_arguments t = append-nil (uses_in t)
uses-with_last (argument u us) t = ap (uses_in u ++◌) (uses-with_last us t) ∙ sym (append_assoc (uses_in u) (uses_in_all us) (uses_in t))

pub count-with_last : (ts : Arguments) (t : Written) → count_of (with_last ts t) ≡ count_of ts + 1
count-with_last no_arguments t = omega arith
count-with_last (argument u us) t = omega (arith, count-with_last us t)

-- a whole term's uses end with the next token
pub uses-ended : (t : Written) → uses_in t ≡ uses_in_front (whole t) ++ ended_alone (last_alone (whole t))
uses-ended (alone c) = refl
uses-ended (applied f ts) = sym (append-nil (uses_in (applied f ts)))

abbrev NamesMove : TermFront → Token → TermFront → Type 0
NamesMove u t v = names_in_front v ≡ names_in_front u ++ names_of_token t

abbrev UsesMove : TermFront → Token → TermFront → Type 0
UsesMove u t v = uses_in_front v ≡ uses_in_front u ++ ended_in u t

names_behind : (f : Name) (ts : Arguments) (w : Written) (v : TermFront) (t : Token) → behind_argument f (with_last ts w) t ≡ Some v → NamesMove (within f ts (whole w)) t v
names_behind f ts w v comma h = subst (NamesMove (within f ts (whole w)) comma) (same_Some (opened f (with_last ts w)) v h) (ap (f ∷◌) (names-with_last ts w) ∙ sym (append-nil _))
names_behind f ts w v right_paren h = subst (NamesMove (within f ts (whole w)) right_paren) (same_Some (whole (applied f (with_last ts w))) v h) (ap (f ∷◌) (names-with_last ts w) ∙ sym (append-nil _))
names_behind f ts w v t h = absurd (cc)

pub term_names : (u v : TermFront) (t : Token) → next_term u t ≡ Some v → NamesMove u t v
term_names (whole (alone c)) v left_paren h = subst (NamesMove (whole (alone c)) left_paren) (same_Some (opened c no_arguments) v h) refl
term_names (whole (alone c)) v t h = absurd (cc)
term_names (whole (applied f ts)) v t h = absurd (cc)
term_names (opened f ts) v (identifier c) h = subst (NamesMove (opened f ts) (identifier c)) (same_Some (within f ts (whole (alone c))) v h) refl
term_names (opened f no_arguments) v right_paren h = subst (NamesMove (opened f no_arguments) right_paren) (same_Some (whole (applied f no_arguments)) v h) refl
term_names (opened f (argument a us)) v right_paren h = absurd (cc)
term_names (opened f ts) v t h = absurd (cc)
term_names (within f ts (whole (alone c))) v left_paren h = subst (NamesMove (within f ts (whole (alone c))) left_paren) (same_Some (within f ts (opened c no_arguments)) v h) (sym (append-nil _))
term_names (within f ts (whole (alone c))) v t h = names_behind f ts (alone c) v t h
term_names (within f ts (whole (applied g us))) v t h = names_behind f ts (applied g us) v t h
term_names (within f ts (opened g us)) v t h =
    let r = some_of_map (within f ts) (next_term (opened g us) t) v h in
    subst (NamesMove (within f ts (opened g us)) t) r.2 (ap (λ (ns : List Name). f ∷ (names_in_all ts ++ ns)) (term_names (opened g us) r.0 t r.1) ∙ ap (f ∷◌) (sym (append_assoc (names_in_all ts) (names_in_front (opened g us)) (names_of_token t))))
term_names (within f ts (within g us u)) v t h =
    let r = some_of_map (within f ts) (next_term (within g us u) t) v h in
    subst (NamesMove (within f ts (within g us u)) t) r.2 (ap (λ (ns : List Name). f ∷ (names_in_all ts ++ ns)) (term_names (within g us u) r.0 t r.1) ∙ ap (f ∷◌) (sym (append_assoc (names_in_all ts) (names_in_front (within g us u)) (names_of_token t))))

uses_behind : (f : Name) (ts : Arguments) (w : Written) (v : TermFront) (t : Token) → behind_argument f (with_last ts w) t ≡ Some v → UsesMove (within f ts (whole w)) t v
uses_behind f ts w v comma h = subst (UsesMove (within f ts (whole w)) comma) (same_Some (opened f (with_last ts w)) v h)
    (uses-with_last ts w ∙ ap (uses_in_all ts ++◌) (uses-ended w) ∙ sym (append_assoc (uses_in_all ts) (uses_in_front (whole w)) (ended_alone (last_alone (whole w))))
    ∙ ap ((uses_in_all ts ++ uses_in_front (whole w)) ++◌) (sym (append-nil (ended_alone (last_alone (whole w))))))
uses_behind f ts w v right_paren h = subst (UsesMove (within f ts (whole w)) right_paren) (same_Some (whole (applied f (with_last ts w))) v h)
    ((λ i. (uses-with_last ts w ∙ ap (uses_in_all ts ++◌) (uses-ended w) ∙ sym (append_assoc (uses_in_all ts) (uses_in_front (whole w)) (ended_alone (last_alone (whole w))))) i ++ (f, count-with_last ts w i) ∷ [])
    ∙ append_assoc (uses_in_all ts ++ uses_in_front (whole w)) (ended_alone (last_alone (whole w))) ((f, count_of ts + 1) ∷ []))
uses_behind f ts w v t h = absurd (cc)

pub term_uses : (u v : TermFront) (t : Token) → next_term u t ≡ Some v → UsesMove u t v
term_uses (whole (alone c)) v left_paren h = subst (UsesMove (whole (alone c)) left_paren) (same_Some (opened c no_arguments) v h) refl
term_uses (whole (alone c)) v t h = absurd (cc)
term_uses (whole (applied f ts)) v t h = absurd (cc)
term_uses (opened f no_arguments) v (identifier c) h = subst (UsesMove (opened f no_arguments) (identifier c)) (same_Some (within f no_arguments (whole (alone c))) v h) refl
term_uses (opened f (argument a us)) v (identifier c) h = subst (UsesMove (opened f (argument a us)) (identifier c)) (same_Some (within f (argument a us) (whole (alone c))) v h) refl
term_uses (opened f no_arguments) v right_paren h = subst (UsesMove (opened f no_arguments) right_paren) (same_Some (whole (applied f no_arguments)) v h) refl
term_uses (opened f (argument a us)) v right_paren h = absurd (cc)
term_uses (opened f ts) v t h = absurd (cc)
term_uses (within f ts (whole (alone c))) v left_paren h = subst (UsesMove (within f ts (whole (alone c))) left_paren) (same_Some (within f ts (opened c no_arguments)) v h) (sym (append-nil _))
term_uses (within f ts (whole (alone c))) v t h = uses_behind f ts (alone c) v t h
term_uses (within f ts (whole (applied g us))) v t h = uses_behind f ts (applied g us) v t h
term_uses (within f ts (opened g us)) v t h =
    let r = some_of_map (within f ts) (next_term (opened g us) t) v h in
    subst (UsesMove (within f ts (opened g us)) t) r.2 (ap (uses_in_all ts ++◌) (term_uses (opened g us) r.0 t r.1) ∙ sym (append_assoc (uses_in_all ts) (uses_in_front (opened g us)) (ended_in (opened g us) t)))
term_uses (within f ts (within g us u)) v t h =
    let r = some_of_map (within f ts) (next_term (within g us u) t) v h in
    subst (UsesMove (within f ts (within g us u)) t) r.2 (ap (uses_in_all ts ++◌) (term_uses (within g us u) r.0 t r.1) ∙ sym (append_assoc (uses_in_all ts) (uses_in_front (within g us u)) (ended_in (within g us u) t)))
