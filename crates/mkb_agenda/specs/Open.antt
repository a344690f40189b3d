-- Which rules are open to a node.
use Rattle.std.specs.Prelude.{ℕ, [], ◌∷◌, Bool, true, false, ◌&&◌, ◌||◌, ◌==◌, not, Option, Some, None}
use Rattle.std.specs.List.{list_any}
use Rattle.kb_term.specs.declared.origin.RuleRef.{RuleRef}
use Rattle.kb_term.specs.declared.origin.Found.{Found}
use Rattle.kb_term.specs.declared.origin.Found.TheVariants.{No, Variant, Strict}
use Rattle.mkb_model.specs.Plain.{Plain, known, other}
use Rattle.mkb_rules.specs.Roles.{has_rule}
use Rattle.mkb_rules.specs.declared.roles.Roles.{Roles}

-- whoever has the node in these roles may rewrite a redex of this kind on side w: any where it is an equation, or the rule with w on the right, and a strict one on the left
abbrev pub is_usable_in : Roles → ℕ → Found → Bool
is_usable_in r w No = false
is_usable_in r w Variant = r.equation || has_rule r (other w)
is_usable_in r w Strict = true

-- nothing is known of the side and the rule, or a usable redex
abbrev pub is_open_in : Roles → ℕ → Option Found → Bool
is_open_in r w None = true
is_open_in r w (Some found) = is_usable_in r w found

-- some side of the node is open to the rule, which is of another node
abbrev pub is_open_to : Plain → Roles → ℕ → RuleRef → Bool
is_open_to b r n a = not (a.node == n) && list_any (λ w. is_open_in r w (known b n w a)) (0 ∷ 1 ∷ [])
