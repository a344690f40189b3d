-- What is told of the number of tasks after a change.
use Rattle.std.proofs.Common.{ℕ, ◌≡◌, ◌+◌, ◌∙◌, sym, arith}
use Rattle.std.specs.Prelude.{Option, Some, None, MatchOption, IfSome}
use Rattle.mkb_pick.specs.declared.tree.Tree.{Tree}
use Rattle.mkb_pick.specs.Trees.{count}
use Rattle.mkb_pick.specs.Queues.{IsTally}

-- as many tasks as before
pub tally_same : (m : Option ℕ) (was now : Tree) → count now ≡ count was → IsTally m was → IsTally m now
tally_same None was now same told = tt
tally_same (Some n) was now same told = told ∙ sym same

-- one task more
pub tally_more : (m n : Option ℕ) (was now : Tree) → IfSome n (λ y. MatchOption m ⊥ (λ x. y ≡ x + 1)) → count now ≡ count was + 1 → IsTally m was → IsTally n now
tally_more m None was now next more told = tt
tally_more None (Some y) was now next more told = absurd next
tally_more (Some x) (Some y) was now next more told = omega (arith, next, more, told)

-- one task fewer
pub tally_fewer : (m n : Option ℕ) (was now : Tree) → IfSome n (λ y. MatchOption m ⊥ (λ x. y + 1 ≡ x)) → count now + 1 ≡ count was → IsTally m was → IsTally n now
tally_fewer m None was now next fewer told = tt
tally_fewer None (Some y) was now next fewer told = absurd next
tally_fewer (Some x) (Some y) was now next fewer told = omega (arith, next, fewer, told)
