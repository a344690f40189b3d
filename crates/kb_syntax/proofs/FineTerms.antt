-- Terms whose fronts keep the limits and apply no variable.
use Rattle.std.proofs.Common.{◌≡◌, refl, ap, sym, ◌∙◌, subst, arith, ℕ, ◌+◌, ◌<◌, ◌≤◌, List, Some, Bool, true, false, ◌&&◌}
use Rattle.std.specs.Prelude.{not, max}
use Rattle.std.proofs.lemmas.Option.{same_Some}
use Rattle.kb_lemmas.proofs.Options.{some_of_map}
use Rattle.kb_text.specs.Names.{Name, is_among}
use Rattle.kb_text.specs.Tokens.{Token, left_paren, right_paren, comma, identifier}
use Rattle.kb_text.specs.Grammar.{Written, alone, applied, Arguments, no_arguments, argument}
use Rattle.kb_text.specs.Fronts.{TermFront, whole, opened, within}
use Rattle.kb_text.specs.Problems.{depth_in, depth_in_all, is_unapplied, are_unapplied, count_of}
use Rattle.kb_text.specs.Refusals.{awaits_term, open_parens, last_alone, ends_next, arguments_so_far}
use Rattle.kb_text.specs.Machine.{next_term, with_last, behind_argument}
use Rattle.kb_syntax.proofs.MoveTerms.{count-with_last}

-- a whole term at a depth
pub record FineTerm (vars : List Name) (d : ℕ) (t : Written) : Type 0 where
  pub depth : d + depth_in t ≤ 64
  pub unapplied : is_unapplied vars t ≡ true

-- an open application at a depth, with its whole arguments
pub record FineOpen (vars : List Name) (d : ℕ) (f : Name) (ts : Arguments) : Type 0 where
  pub depth : d + depth_in_all ts + 1 ≤ 64
  pub arguments : are_unapplied vars ts ≡ true
  pub symbol : is_among vars f ≡ false
  pub count : count_of ts ≤ 7

abbrev pub FineSide : List Name → ℕ → TermFront → Type 0
FineSide vars d (whole t) = FineTerm vars d t
FineSide vars d (opened f ts) = FineOpen vars d f ts
FineSide vars d (within f ts u) = FineOpen vars d f ts × FineSide vars (d + 1) u

-- what the tests of a token let through
pub record Passes (vars : List Name) (d : ℕ) (u : TermFront) (t : Token) : Type 0 where
  pub name : (c : Name) → t ≡ identifier c → d + open_parens u < 64
  pub paren : (c : Name) → t ≡ left_paren → last_alone u ≡ Some c → is_among vars c ≡ false
  pub comma : t ≡ comma → (arguments_so_far u ≡ 8 → ⊥)

pub depth-with_last : (ts : Arguments) (t : Written) → depth_in_all (with_last ts t) ≡ max (depth_in_all ts) (depth_in t)
depth-with_last no_arguments t = omega arith
depth-with_last (argument u us) t = omega (arith, depth-with_last us t)

unapplied-with_last : (vars : List Name) (ts : Arguments) (t : Written) → are_unapplied vars ts ≡ true → is_unapplied vars t ≡ true → are_unapplied vars (with_last ts t) ≡ true
unapplied-with_last vars no_arguments t h k = ap (λ (b : Bool). b && true) k
unapplied-with_last vars (argument u us) t h k = go (is_unapplied vars u) (unapplied-with_last vars us t) h
  where
    go : (b : Bool) → (are_unapplied vars us ≡ true → is_unapplied vars t ≡ true → are_unapplied vars (with_last us t) ≡ true) → (b && are_unapplied vars us) ≡ true → (b && are_unapplied vars (with_last us t)) ≡ true
    go true ih h = ih h k
    go false ih h = absurd (cc)

fine_last : (vars : List Name) (d : ℕ) (f : Name) (ts : Arguments) (t : Written) → FineOpen vars d f ts → FineTerm vars (d + 1) t → (d + depth_in_all (with_last ts t) + 1 ≤ 64) × (are_unapplied vars (with_last ts t) ≡ true)
fine_last vars d f ts t h k = (omega (arith, h.depth, k.depth, depth-with_last ts t), unapplied-with_last vars ts t h.arguments k.unapplied)

fine_behind : (vars : List Name) (d : ℕ) (f : Name) (ts : Arguments) (w : Written) (v : TermFront) (t : Token) → behind_argument f (with_last ts w) t ≡ Some v → FineOpen vars d f ts → FineTerm vars (d + 1) w → (t ≡ comma → (count_of ts + 1 ≡ 8 → ⊥)) → FineSide vars d v
fine_behind vars d f ts w v comma h a b p =
    let r = fine_last vars d f ts w a b in
    subst (FineSide vars d) (same_Some (opened f (with_last ts w)) v h) (record { depth = r.0; arguments = r.1; symbol = a.symbol; count = less (p refl) })
  where
    less : (count_of ts + 1 ≡ 8 → ⊥) → count_of (with_last ts w) ≤ 7
    less q = let e = count-with_last ts w in let c = a.count in omega (arith, e, c, q)
fine_behind vars d f ts w v right_paren h a b p =
    let r = fine_last vars d f ts w a b in
    subst (FineSide vars d) (same_Some (whole (applied f (with_last ts w))) v h) (record { depth = omega (arith, r.0); unapplied = both a.symbol r.1 })
  where
    both : is_among vars f ≡ false → are_unapplied vars (with_last ts w) ≡ true → (not (is_among vars f) && are_unapplied vars (with_last ts w)) ≡ true
    both p q = (λ i. not (p i) && q i)
fine_behind vars d f ts w v t h a b p = absurd (cc)

pub parens_bound : (vars : List Name) (d : ℕ) (u : TermFront) → FineSide vars d u → awaits_term u ≡ true → d + open_parens u ≤ 64
parens_bound vars d (whole t) h k = absurd (cc)
parens_bound vars d (opened f ts) h k = omega (arith, h.depth)
parens_bound vars d (within f ts u) h k = omega (arith, parens_bound vars (d + 1) u h.1 k)

-- passing inside
inside : (vars : List Name) (d : ℕ) (f : Name) (ts : Arguments) (u : TermFront) (t : Token) → (t ≡ comma → arguments_so_far (within f ts u) ≡ arguments_so_far u) → Passes vars d (within f ts u) t → Passes vars (d + 1) u t
inside vars d f ts u t same p = record {
  name = λ c e. omega (arith, p.name c e);
  paren = λ c e k. p.paren c e k;
  comma = λ e k. p.comma e (same e ∙ k);
}

pub fine_term : (vars : List Name) (u v : TermFront) (d : ℕ) (t : Token) → next_term u t ≡ Some v → FineSide vars d u → Passes vars d u t → FineSide vars d v
fine_term vars (whole (alone c)) v d left_paren h k p = subst (FineSide vars d) (same_Some (opened c no_arguments) v h) (record { depth = omega (arith, k.depth); arguments = refl; symbol = p.paren c refl refl; count = omega arith })
fine_term vars (whole (alone c)) v d t h k p = absurd (cc)
fine_term vars (whole (applied f ts)) v d t h k p = absurd (cc)
fine_term vars (opened f ts) v d (identifier c) h k p = subst (FineSide vars d) (same_Some (within f ts (whole (alone c))) v h) (k, record { depth = omega (arith, p.name c refl); unapplied = refl })
fine_term vars (opened f no_arguments) v d right_paren h k p = subst (FineSide vars d) (same_Some (whole (applied f no_arguments)) v h) (record { depth = omega (arith, k.depth); unapplied = ap (λ (b : Bool). not b && true) k.symbol })
fine_term vars (opened f (argument a us)) v d right_paren h k p = absurd (cc)
fine_term vars (opened f ts) v d t h k p = absurd (cc)
fine_term vars (within f ts (whole (alone c))) v d left_paren h k p = subst (FineSide vars d) (same_Some (within f ts (opened c no_arguments)) v h) (k.0, record { depth = omega (arith, k.1.depth); arguments = refl; symbol = p.paren c refl refl; count = omega arith })
fine_term vars (within f ts (whole (alone c))) v d t h k p = fine_behind vars d f ts (alone c) v t h k.0 k.1 (λ e. p.comma e)
fine_term vars (within f ts (whole (applied g us))) v d t h k p = fine_behind vars d f ts (applied g us) v t h k.0 k.1 (λ e. p.comma e)
fine_term vars (within f ts (opened g us)) v d t h k p =
    let r = some_of_map (within f ts) (next_term (opened g us) t) v h in
    subst (FineSide vars d) r.2 (k.0, fine_term vars (opened g us) r.0 (d + 1) t r.1 k.1 (inside vars d f ts (opened g us) t (λ e. refl) p))
fine_term vars (within f ts (within g us u)) v d t h k p =
    let r = some_of_map (within f ts) (next_term (within g us u) t) v h in
    subst (FineSide vars d) r.2 (k.0, fine_term vars (within g us u) r.0 (d + 1) t r.1 k.1 (inside vars d f ts (within g us u) t (λ e. refl) p))

-- the application that ends next has at most 8 arguments, and no variable as its symbol
pub fine_end : (vars : List Name) (u : TermFront) (d : ℕ) (a : Name × ℕ × ℕ) → FineSide vars d u → ends_next u ≡ Some a → (a.1 ≤ 8) × (is_among vars a.0 ≡ false)
fine_end vars (whole t) d a h e = absurd (cc)
fine_end vars (opened f no_arguments) d a h e = let s = same_Some (f, 0, 2) a e in (omega (arith, ap (λ (x : Name × ℕ × ℕ). x.1) s), ap (λ (x : Name × ℕ × ℕ). is_among vars x.0) (sym s) ∙ h.symbol)
fine_end vars (opened f (argument t ts)) d a h e = absurd (cc)
fine_end vars (within f ts (whole t)) d a h e =
    let s = same_Some _ a e in
    let c = h.0.count in
    let n = ap (λ (x : Name × ℕ × ℕ). x.1) s in
    (omega (arith, c, n), ap (λ (x : Name × ℕ × ℕ). is_among vars x.0) (sym s) ∙ h.0.symbol)
fine_end vars (within f ts (opened g us)) d a h e = fine_end vars (opened g us) (d + 1) a h.1 e
fine_end vars (within f ts (within g us u)) d a h e = fine_end vars (within g us u) (d + 1) a h.1 e
