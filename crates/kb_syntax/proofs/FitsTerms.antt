-- Fronts of terms that keep the limits and apply no variable, seen from the next front: it keeps them only where this one does.
use Rattle.std.proofs.Common.{◌≡◌, refl, ap, sym, ◌∙◌, subst, arith, ℕ, ◌+◌, ◌≤◌, List, [], ◌∷◌, Some, Bool, true, false, ◌&&◌}
use Rattle.std.specs.Prelude.{nat_le}
use Rattle.std.specs.List.{list_all}
use Rattle.std.proofs.lemmas.Option.{same_Some}
use Rattle.std.proofs.lemmas.List.Folds.{list_all-append}
use Rattle.std.proofs.lemmas.Bool.{not-true, and_parts}
use Rattle.kb_lemmas.proofs.Options.{some_of_map}
use Rattle.kb_text.specs.Names.{Name, is_among}
use Rattle.kb_text.specs.Tokens.{Token, left_paren, right_paren, comma, identifier}
use Rattle.kb_text.specs.Grammar.{Written, alone, applied, Arguments, no_arguments, argument}
use Rattle.kb_text.specs.Fronts.{TermFront, whole, opened, within}
use Rattle.kb_text.specs.Problems.{depth_in, depth_in_all, is_unapplied, are_unapplied, count_of, uses_in, uses_in_all}
use Rattle.kb_text.specs.Refusals.{last_alone, arguments_so_far}
use Rattle.kb_text.specs.Machine.{next_term, with_last, behind_argument}
use Rattle.kb_syntax.proofs.FineTerms.{Passes, depth-with_last}
use Rattle.kb_syntax.proofs.MoveTerms.{count-with_last, uses-with_last}

abbrev pub few_arguments : Name × ℕ → Bool
few_arguments u = nat_le u.1 8

-- a whole term at a depth
pub record FitsTerm (vars : List Name) (d : ℕ) (t : Written) : Type 0 where
  pub depth : d + depth_in t ≤ 64
  pub unapplied : is_unapplied vars t ≡ true
  pub arities : list_all few_arguments (uses_in t) ≡ true

-- an open application at a depth, with its whole arguments
pub record FitsOpen (vars : List Name) (d : ℕ) (f : Name) (ts : Arguments) : Type 0 where
  pub depth : d + depth_in_all ts + 1 ≤ 64
  pub arguments : are_unapplied vars ts ≡ true
  pub symbol : is_among vars f ≡ false
  pub count : count_of ts ≤ 7
  pub arities : list_all few_arguments (uses_in_all ts) ≡ true

abbrev pub FitsSide : List Name → ℕ → TermFront → Type 0
FitsSide vars d (whole t) = FitsTerm vars d t
FitsSide vars d (opened f ts) = FitsOpen vars d f ts
FitsSide vars d (within f ts u) = FitsOpen vars d f ts × FitsSide vars (d + 1) u

unapplied-last : (vars : List Name) (ts : Arguments) (t : Written) → are_unapplied vars (with_last ts t) ≡ true → (are_unapplied vars ts ≡ true) × (is_unapplied vars t ≡ true)
unapplied-last vars no_arguments t h = (refl, (and_parts (is_unapplied vars t) true h).0)
unapplied-last vars (argument u us) t h =
    let r = and_parts (is_unapplied vars u) (are_unapplied vars (with_last us t)) h in
    let q = unapplied-last vars us t r.1 in ((λ i. r.0 i && q.0 i), q.1)

arities-last : (ts : Arguments) (t : Written) → list_all few_arguments (uses_in_all (with_last ts t)) ≡ true → (list_all few_arguments (uses_in_all ts) ≡ true) × (list_all few_arguments (uses_in t) ≡ true)
arities-last ts t h = and_parts _ _ (sym (list_all-append few_arguments (uses_in_all ts) (uses_in t)) ∙ ap (list_all few_arguments) (sym (uses-with_last ts t)) ∙ h)

below : (n : ℕ) → nat_le n 8 ≡ true → n ≤ 8
below n h = grind arith

-- a whole argument, and the application around it
fits_last : (vars : List Name) (d : ℕ) (f : Name) (ts : Arguments) (w : Written) → d + depth_in_all (with_last ts w) + 1 ≤ 64 → are_unapplied vars (with_last ts w) ≡ true → is_among vars f ≡ false → count_of (with_last ts w) ≤ 8
    → list_all few_arguments (uses_in_all (with_last ts w)) ≡ true → FitsOpen vars d f ts × FitsTerm vars (d + 1) w
fits_last vars d f ts w depth unapplied symbol count arities =
    let a = unapplied-last vars ts w unapplied in
    let b = arities-last ts w arities in
    let e = depth-with_last ts w in
    let n = count-with_last ts w in
    (record { depth = omega (arith, depth, e); arguments = a.0; symbol = symbol; count = omega (arith, count, n); arities = b.0 }, record { depth = omega (arith, depth, e); unapplied = a.1; arities = b.1 })

fits_behind : (vars : List Name) (d : ℕ) (f : Name) (ts : Arguments) (w : Written) (v : TermFront) (t : Token) → behind_argument f (with_last ts w) t ≡ Some v → FitsSide vars d v → (FitsOpen vars d f ts × FitsTerm vars (d + 1) w) × (t ≡ comma → (count_of ts + 1 ≡ 8 → ⊥))
fits_behind vars d f ts w v comma h k =
    let o : FitsOpen vars d f (with_last ts w) = subst (FitsSide vars d) (sym (same_Some (opened f (with_last ts w)) v h)) k in
    let n = count-with_last ts w in
    let c = o.count in
    (fits_last vars d f ts w o.depth o.arguments o.symbol (omega (arith, c)) o.arities, λ e q. absurd (omega (arith, n, c, q)))
fits_behind vars d f ts w v right_paren h k =
    let o : FitsTerm vars d (applied f (with_last ts w)) = subst (FitsSide vars d) (sym (same_Some (whole (applied f (with_last ts w))) v h)) k in
    let a = and_parts _ _ o.unapplied in
    let b = and_parts _ _ (sym (list_all-append few_arguments (uses_in_all (with_last ts w)) ((f, count_of (with_last ts w)) ∷ [])) ∙ o.arities) in
    let few = below (count_of (with_last ts w)) (and_parts _ _ b.1).0 in
    let depth = o.depth in
    (fits_last vars d f ts w (omega (arith, depth)) a.1 (not-true (is_among vars f) a.0) few b.0, λ e. absurd (cc))
fits_behind vars d f ts w v t h k = absurd (cc)

-- the tests of a token within an application pass around it
around : (vars : List Name) (d : ℕ) (f : Name) (ts : Arguments) (u : TermFront) (t : Token) → (t ≡ comma → arguments_so_far (within f ts u) ≡ arguments_so_far u) → Passes vars (d + 1) u t → Passes vars d (within f ts u) t
around vars d f ts u t same p = record {
  name = λ c e. omega (arith, p.name c e);
  paren = λ c e k. p.paren c e k;
  comma = λ e k. p.comma e (sym (same e) ∙ k);
}

-- a parenthesis behind an identifier alone
by_paren : (vars : List Name) (d : ℕ) (u : TermFront) (c : Name) → last_alone u ≡ Some c → is_among vars c ≡ false → Passes vars d u left_paren
by_paren vars d u c e h = record { name = λ x k. absurd (cc); paren = λ x k q. ap (is_among vars) (sym (same_Some c x (sym e ∙ q))) ∙ h; comma = λ k. absurd (cc) }

-- a token behind a whole argument
by_argument : (vars : List Name) (d : ℕ) (f : Name) (ts : Arguments) (w : Written) (v : TermFront) (t : Token) → behind_argument f (with_last ts w) t ≡ Some v → (t ≡ comma → (count_of ts + 1 ≡ 8 → ⊥)) → Passes vars d (within f ts (whole w)) t
by_argument vars d f ts w v comma h p = record { name = λ x k. absurd (cc); paren = λ x k. absurd (cc); comma = λ k. p refl }
by_argument vars d f ts w v right_paren h p = record { name = λ x k. absurd (cc); paren = λ x k. absurd (cc); comma = λ k. absurd (cc) }
by_argument vars d f ts w v t h p = absurd (cc)

pub fits_term : (vars : List Name) (u v : TermFront) (d : ℕ) (t : Token) → next_term u t ≡ Some v → FitsSide vars d v → FitsSide vars d u × Passes vars d u t
fits_term vars (whole (alone c)) v d left_paren h k =
    let o : FitsOpen vars d c no_arguments = subst (FitsSide vars d) (sym (same_Some (opened c no_arguments) v h)) k in
    (record { depth = omega (arith, o.depth); unapplied = refl; arities = refl }, by_paren vars d (whole (alone c)) c refl o.symbol)
fits_term vars (whole (alone c)) v d t h k = absurd (cc)
fits_term vars (whole (applied f ts)) v d t h k = absurd (cc)
fits_term vars (opened f ts) v d (identifier c) h k =
    let o : FitsOpen vars d f ts × FitsTerm vars (d + 1) (alone c) = subst (FitsSide vars d) (sym (same_Some (within f ts (whole (alone c))) v h)) k in
    let depth = o.1.depth in
    (o.0, record { name = λ x e. omega (arith, depth); paren = λ x e. absurd (cc); comma = λ e. absurd (cc) })
fits_term vars (opened f no_arguments) v d right_paren h k =
    let o : FitsTerm vars d (applied f no_arguments) = subst (FitsSide vars d) (sym (same_Some (whole (applied f no_arguments)) v h)) k in
    (record { depth = omega (arith, o.depth); arguments = refl; symbol = not-true (is_among vars f) (and_parts _ _ o.unapplied).0; count = omega arith; arities = refl }, record { name = λ x e. absurd (cc); paren = λ x e. absurd (cc); comma = λ e. absurd (cc) })
fits_term vars (opened f (argument a us)) v d right_paren h k = absurd (cc)
fits_term vars (opened f ts) v d t h k = absurd (cc)
fits_term vars (within f ts (whole (alone c))) v d left_paren h k =
    let o : FitsOpen vars d f ts × FitsOpen vars (d + 1) c no_arguments = subst (FitsSide vars d) (sym (same_Some (within f ts (opened c no_arguments)) v h)) k in
    let depth = o.1.depth in
    ((o.0, record { depth = omega (arith, depth); unapplied = refl; arities = refl }), by_paren vars d (within f ts (whole (alone c))) c refl o.1.symbol)
fits_term vars (within f ts (whole (alone c))) v d t h k = let r = fits_behind vars d f ts (alone c) v t h k in (r.0, by_argument vars d f ts (alone c) v t h r.1)
fits_term vars (within f ts (whole (applied g us))) v d t h k = let r = fits_behind vars d f ts (applied g us) v t h k in (r.0, by_argument vars d f ts (applied g us) v t h r.1)
fits_term vars (within f ts (opened g us)) v d t h k =
    let r = some_of_map (within f ts) (next_term (opened g us) t) v h in
    let o : FitsOpen vars d f ts × FitsSide vars (d + 1) r.0 = subst (FitsSide vars d) (sym r.2) k in
    let q = fits_term vars (opened g us) r.0 (d + 1) t r.1 o.1 in
    ((o.0, q.0), around vars d f ts (opened g us) t (λ e. refl) q.1)
fits_term vars (within f ts (within g us u)) v d t h k =
    let r = some_of_map (within f ts) (next_term (within g us u) t) v h in
    let o : FitsOpen vars d f ts × FitsSide vars (d + 1) r.0 = subst (FitsSide vars d) (sym r.2) k in
    let q = fits_term vars (within g us u) r.0 (d + 1) t r.1 o.1 in
    ((o.0, q.0), around vars d f ts (within g us u) t (λ e. refl) q.1)
