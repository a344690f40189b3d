-- What branches have, case by case.
use Rattle.std.proofs.Common.{ℕ, ◌≡◌, inl, ⊎_elim, refl, sym, subst, ◌∷◌}
use Rattle.rule_index.specs.declared.mark.Mark.{Mark}
use Rattle.rule_index.specs.declared.branch.Branch.{Branch, Node'}
use Rattle.rule_index.specs.Branches.{IsKeyThere}

pub there_inner : (m : Mark) (p : _) (i : Branch) (q : _) (r : Branch) (key : ℕ) → IsKeyThere i key → IsKeyThere (Node' m p i q r) key
there_inner m p i q r key (ms, h) = (m ∷ ms, inl (ms, refl, h))

pub found_inner : (b x : Branch) (m : Mark) (p : _) (i : Branch) (q : _) (r : Branch) (key : ℕ) → b ≡ Node' m p i q r → x ≡ i → IsKeyThere x key → IsKeyThere b key
found_inner b x m p i q r key e d h = subst (λ y. IsKeyThere y key) (sym e) (there_inner m p i q r key (subst (λ y. IsKeyThere y key) d h))
