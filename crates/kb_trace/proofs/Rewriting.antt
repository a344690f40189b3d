-- What one use of a rule makes.
use Rattle.std.proofs.Common.{ℕ, ◌≡◌, ◌∙◌, sym, ap, subst, List, Some, None, Ok, Err}
use Rattle.std.specs.Prelude.{IsSomeAnd}
use Rattle.std.proofs.lemmas.Option.{same_Some}
use Rattle.kb_term.specs.Tree.{Tree}
use Rattle.kb_term.specs.Position.{subtree_at, replace_at}
use Rattle.kb_term.specs.Substitution.{instance}
use Rattle.kb_term.specs.Pair.{IsWithin}
use Rattle.kb_term.specs.Rule.{Rule, IsRule}
use Rattle.kb_term.specs.Proving.{RewritesAt}
use Rattle.kb_term.specs.Made.{IsLimitedAnswer}
use Rattle.kb_term.specs.View.{tree_of}
use Rattle.kb_term.specs.declared.term.Term.{Term}
use Rattle.kb_term.specs.declared.limit.Limit.{Limit}
use Rattle.kb_term.specs.declared.fault.TermFault.TheVariants.{Large}
use Rattle.kb_term.proofs.Instances.{agree_at, instance-agree}
use Rattle.kb_term.proofs.Steps.{occurs_from, occurs_to}
use Rattle.kb_rewrite.proofs.Steps.{rewrites_at}
use Rattle.kb_trace.specs.Steps.{IsRewritten}
use Rattle.kb_trace.proofs.Canonical.{limit_passed}

-- a rule rewrites a term at a position in one way
pub rewritten_once : (rule : Rule) (p : List ℕ) (t u v : Tree) → IsRule rule → RewritesAt rule p t u → RewritesAt rule p t v → u ≡ v
rewritten_once rule p t u v r (m, w) (k, z) =
    let same : instance m rule.left ≡ instance k rule.left = same_Some _ _ (sym w.redex ∙ z.redex) in
    let right = instance-agree m k rule.right (λ n o. agree_at m k rule.left same n (occurs_from n rule.left (r.holds_variables n (occurs_to n rule.right o)))) in
    same_Some _ _ (sym w.result ∙ ap (replace_at t p) right ∙ z.result)

-- the result passes a limit
pub too_large : (rule : Rule) (p : List ℕ) (m : ℕ → Tree) (t made : Tree) (limit : Limit) → IsRule rule → subtree_at t p ≡ Some (instance m rule.left) → made ≡ instance m rule.right
    → IsSomeAnd (replace_at t p made) (λ v. IsLimitedAnswer v (Err (Large limit))) → IsRewritten rule p t None
too_large rule p m t made limit r at is large v h within =
    let k = rewrites_at rule p m t made (Err (Large limit)) at is large in
    limit_passed k.0 limit k.2 (subst IsWithin (rewritten_once rule p t v k.0 r h k.1) within)

-- the result is made
pub made_there : (rule : Rule) (p : List ℕ) (m : ℕ → Tree) (t made : Tree) (result : Term) → IsRule rule → subtree_at t p ≡ Some (instance m rule.left) → made ≡ instance m rule.right
    → IsSomeAnd (replace_at t p made) (λ v. IsLimitedAnswer v (Ok result)) → IsRewritten rule p t (Some result)
made_there rule p m t made result r at is answer =
    let k = rewrites_at rule p m t made (Ok result) at is answer in
    let h : RewritesAt rule p t (tree_of result) = subst (RewritesAt rule p t) (sym k.2.0) k.1 in
    (h, λ v g. rewritten_once rule p t v (tree_of result) r g h)
