-- The machine goes through the tokens of terms and of their fronts.
use Rattle.std.proofs.Common.{◌≡◌, List, [], ◌∷◌, ◌++◌, Some, refl, sym, ap, subst, append_assoc, option_map}
use Rattle.kb_text.specs.Names.{Name}
use Rattle.kb_text.specs.Tokens.{Token, left_paren, right_paren, comma, identifier}
use Rattle.kb_text.specs.Grammar.{Written, alone, applied, Arguments, no_arguments, argument, term_tokens, argument_tokens, later_tokens}
use Rattle.kb_text.specs.Fronts.{TermFront, whole, opened, within, followed_tokens, term_front_tokens}
use Rattle.kb_text.specs.Machine.{with_last, next_term}
use Rattle.kb_text.proofs.Leads.{Leads, leads-append, leads_within}

-- what leads on within a term leads on where the term is an argument
pub within_step : (f : Name) (ts : Arguments) (u w : TermFront) (t : Token) → next_term u t ≡ Some w → next_term (within f ts u) t ≡ Some (within f ts w)
within_step f ts (whole (alone c)) w left_paren h = ap (option_map (within f ts)) h
within_step f ts (whole (alone c)) w t h = absurd (cc)
within_step f ts (whole (applied g us)) w t h = absurd (cc)
within_step f ts (opened g us) w t h = ap (option_map (within f ts)) h
within_step f ts (within g us u) w t h = ap (option_map (within f ts)) h

abbrev pub join : Arguments → Arguments → Arguments
join no_arguments us = us
join (argument v vs) us = argument v (join vs us)

join-with_last : (vs : Arguments) (t : Written) (us : Arguments) → join (with_last vs t) us ≡ join vs (argument t us)
join-with_last no_arguments t us = refl
join-with_last (argument v vs) t us = ap (argument v) (join-with_last vs t us)

pub close_step : (g : Name) (vs : Arguments) (t : Written) → next_term (within g vs (whole t)) right_paren ≡ Some (whole (applied g (with_last vs t)))
close_step g vs (alone c) = refl
close_step g vs (applied f ts) = refl

pub comma_step : (g : Name) (vs : Arguments) (t : Written) → next_term (within g vs (whole t)) comma ≡ Some (opened g (with_last vs t))
comma_step g vs (alone c) = refl
comma_step g vs (applied f ts) = refl

with_last-join : (vs : Arguments) (t : Written) → with_last vs t ≡ join vs (argument t no_arguments)
with_last-join no_arguments t = refl
with_last-join (argument v vs) t = ap (argument v) (with_last-join vs t)

mutual
  -- a term as the next argument
  pub run_argument : (w : Written) (f : Name) (ts : Arguments) → Leads next_term (opened f ts) (term_tokens w) (within f ts (whole w))
  run_argument (alone c) f ts = (within f ts (whole (alone c)), refl, refl)
  run_argument (applied g us) f ts = (within f ts (whole (alone g)), refl, (within f ts (opened g no_arguments), refl, leads_within next_term next_term (within f ts) (within_step f ts) _ _ _ (run_all us g)))

  -- all arguments and the closing parenthesis
  pub run_all : (us : Arguments) (g : Name) → Leads next_term (opened g no_arguments) (argument_tokens us ++ right_paren ∷ []) (whole (applied g us))
  run_all no_arguments g = (whole (applied g no_arguments), refl, refl)
  run_all (argument t us) g = subst (λ (l : List Token). Leads next_term (opened g no_arguments) l (whole (applied g (argument t us)))) (sym (append_assoc (term_tokens t) (later_tokens us) (right_paren ∷ [])))
      (leads-append next_term (term_tokens t) _ _ _ _ (run_argument t g no_arguments) (run_later us g no_arguments t))

  pub run_later : (us : Arguments) (g : Name) (vs : Arguments) (t : Written) → Leads next_term (within g vs (whole t)) (later_tokens us ++ right_paren ∷ []) (whole (applied g (join vs (argument t us))))
  run_later no_arguments g vs t = (whole (applied g (with_last vs t)), close_step g vs t, ap (λ (a : Arguments). whole (applied g a)) (with_last-join vs t))
  run_later (argument u us) g vs t = (
    opened g (with_last vs t),
    comma_step g vs t,
    subst (λ (l : List Token). Leads next_term (opened g (with_last vs t)) l (whole (applied g (join vs (argument t (argument u us)))))) (sym (append_assoc (term_tokens u) (later_tokens us) (right_paren ∷ [])))
        (leads-append next_term (term_tokens u) _ _ _ _ (run_argument u g (with_last vs t))
        (subst (λ (a : Arguments). Leads next_term (within g (with_last vs t) (whole u)) (later_tokens us ++ right_paren ∷ []) (whole (applied g a))) (join-with_last vs t (argument u us)) (run_later us g (with_last vs t) u))),
  )

-- a term begins with an identifier: it, and the tokens behind it
abbrev pub head_of : Written → Name
head_of (alone c) = c
head_of (applied f ts) = f

abbrev pub tail_of : Written → List Token
tail_of (alone c) = []
tail_of (applied f ts) = left_paren ∷ (argument_tokens ts ++ right_paren ∷ [])

pub term_begins : (w : Written) → term_tokens w ≡ identifier (head_of w) ∷ tail_of w
term_begins (alone c) = refl
term_begins (applied f ts) = refl

pub run_tail : (w : Written) → Leads next_term (whole (alone (head_of w))) (tail_of w) (whole w)
run_tail (alone c) = refl
run_tail (applied g us) = (opened g no_arguments, refl, run_all us g)

-- arguments with a comma behind each
pub run_followed : (us : Arguments) (g : Name) (vs : Arguments) → Leads next_term (opened g vs) (followed_tokens us) (opened g (join vs us))
run_followed no_arguments g vs = ap (opened g) (sym (join-none vs))
  where
    join-none : (vs : Arguments) → join vs no_arguments ≡ vs
    join-none no_arguments = refl
    join-none (argument v vs) = ap (argument v) (join-none vs)
run_followed (argument t us) g vs =
    leads-append next_term (term_tokens t) (comma ∷ followed_tokens us) _ _ _ (run_argument t g vs)
    (opened g (with_last vs t), comma_step g vs t, subst (λ (a : Arguments). Leads next_term (opened g (with_last vs t)) (followed_tokens us) (opened g a)) (join-with_last vs t us) (run_followed us g (with_last vs t)))

abbrev pub front_head : TermFront → Name
front_head (whole t) = head_of t
front_head (opened f ts) = f
front_head (within f ts u) = f

abbrev pub front_tail : TermFront → List Token
front_tail (whole t) = tail_of t
front_tail (opened f ts) = left_paren ∷ followed_tokens ts
front_tail (within f ts u) = left_paren ∷ (followed_tokens ts ++ identifier (front_head u) ∷ front_tail u)

pub front_begins : (u : TermFront) → term_front_tokens u ≡ identifier (front_head u) ∷ front_tail u
front_begins (whole t) = term_begins t
front_begins (opened f ts) = refl
front_begins (within f ts u) = ap (λ (l : List Token). identifier f ∷ left_paren ∷ (followed_tokens ts ++ l)) (front_begins u)

pub run_front : (u : TermFront) → Leads next_term (whole (alone (front_head u))) (front_tail u) u
run_front (whole t) = run_tail t
run_front (opened f ts) = (opened f no_arguments, refl, run_followed ts f no_arguments)
run_front (within f ts u) = (opened f no_arguments, refl, leads-append next_term (followed_tokens ts) (identifier (front_head u) ∷ front_tail u) _ _ _ (run_followed ts f no_arguments) (within f ts (whole (alone (front_head u))), refl, leads_within next_term next_term (within f ts) (within_step f ts) _ _ _ (run_front u)))
