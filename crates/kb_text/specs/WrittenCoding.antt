-- A list of numbers for each written term, from which it can be read back, so that a type may be seen as such terms.
use Rattle.std.specs.Prelude.{ℕ, List, [], ◌∷◌, ◌≡◌, drop, slice_index}
use Rattle.std.specs.Coded.{Coded, coded_list, coded_ℕ}
use Rattle.std.proofs.Common.{arith, ap, refl}
use base.Stored.{coded_via}
use Rattle.kb_text.specs.Grammar.{Written, alone, applied, Arguments, no_arguments, argument}

-- the numbers of a name, before a rest
abbrev pub name_code : List ℕ → List ℕ → List ℕ
name_code [] rest = 0 ∷ rest
name_code (b ∷ name) rest = 1 ∷ b ∷ name_code name rest

-- the numbers of the term, before a rest
abbrev mutual
  pub written_code : Written → List ℕ → List ℕ
  written_code (alone name) rest = 0 ∷ name_code name rest
  written_code (applied name ts) rest = 1 ∷ name_code name (arguments_code ts rest)

  pub arguments_code : Arguments → List ℕ → List ℕ
  arguments_code no_arguments rest = 0 ∷ rest
  arguments_code (argument t ts) rest = 1 ∷ written_code t (arguments_code ts rest)

pub name_code-inj : (m n : List ℕ) (xs ys : List ℕ) → name_code m xs ≡ name_code n ys → (m ≡ n) × (xs ≡ ys)
name_code-inj [] [] xs ys e = (refl, ap (drop 1) e)
name_code-inj [] (c ∷ n) xs ys e = absurd (omega (arith, ap (λ c. slice_index c 0) e))
name_code-inj (b ∷ m) [] xs ys e = absurd (omega (arith, ap (λ c. slice_index c 0) e))
name_code-inj (b ∷ m) (c ∷ n) xs ys e =
    let h = name_code-inj m n xs ys (ap (drop 2) e) in (λ i. ap (λ c. slice_index c 1) e i ∷ h.0 i, h.1)

-- equal numbers come from equal terms and equal rests
mutual
  pub written_code-inj : (t u : Written) (xs ys : List ℕ) → written_code t xs ≡ written_code u ys → (t ≡ u) × (xs ≡ ys)
  written_code-inj (alone m) (alone n) xs ys e =
      let h = name_code-inj m n xs ys (ap (drop 1) e) in (ap alone h.0, h.1)
  written_code-inj (alone m) (applied n us) xs ys e = absurd (omega (arith, ap (λ c. slice_index c 0) e))
  written_code-inj (applied m ts) (alone n) xs ys e = absurd (omega (arith, ap (λ c. slice_index c 0) e))
  written_code-inj (applied m ts) (applied n us) xs ys e =
      let h = name_code-inj m n (arguments_code ts xs) (arguments_code us ys) (ap (drop 1) e) in
      let k = arguments_code-inj ts us xs ys h.1 in (λ i. applied (h.0 i) (k.0 i), k.1)

  pub arguments_code-inj : (ts us : Arguments) (xs ys : List ℕ) → arguments_code ts xs ≡ arguments_code us ys → (ts ≡ us) × (xs ≡ ys)
  arguments_code-inj no_arguments no_arguments xs ys e = (refl, ap (drop 1) e)
  arguments_code-inj no_arguments (argument u us) xs ys e = absurd (omega (arith, ap (λ c. slice_index c 0) e))
  arguments_code-inj (argument t ts) no_arguments xs ys e = absurd (omega (arith, ap (λ c. slice_index c 0) e))
  arguments_code-inj (argument t ts) (argument u us) xs ys e =
      let h = written_code-inj t u (arguments_code ts xs) (arguments_code us ys) (ap (drop 1) e) in
      let k = arguments_code-inj ts us xs ys h.1 in (λ i. argument (h.0 i) (k.0 i), k.1)

pub one_written : (t u : Written) → written_code t [] ≡ written_code u [] → t ≡ u
one_written t u e = (written_code-inj t u [] [] e).0

abbrev pub coded_written : Coded Written
coded_written = coded_via (coded_list coded_ℕ) (λ t. written_code t []) one_written
