-- The laws, in the words of the definitions.
use Rattle.std.proofs.Common.{ℕ, subst₂, List, All, Contains}
use Rattle.std.proofs.lemmas.List.Elements.{All-contains}
use Rattle.kb_term.specs.Tree.{Tree}
use Rattle.kb_term.specs.Rule.{Rule}
use Rattle.kb_term.specs.Signature.{Signature, IsWellFormed, IsRuleOver}
use Rattle.kb_term.specs.Proving.{IsTerminating, IsConfluent, IsJoinable, Proves, equations_of}
use Rattle.kb_term.specs.Proving as Proving
use Rattle.kb_term.proofs.Relation as Relation
use Rattle.kb_term.proofs.Steps.{Step, Occurs, occurs_from, occurs_to}
use Rattle.kb_lpo.proofs.Arities.{keeps_well}
use Rattle.kb_laws.proofs.Confluence.{Within, newman, church_rosser}
use Rattle.kb_term.proofs.Chains.{bounded_from}
use Rattle.kb_laws.proofs.Peaks.{steps_join}
use Rattle.kb_laws.specs.Overlaps.{OverlapsJoin}
use Rattle.kb_laws.proofs.Overlaps.{peaks_join}
use Rattle.kb_term.proofs.Bridge.{step_from_position, step_to_position, reaches_from, reaches_to, halts_from, joinable_from, joinable_to}
use Rattle.kb_laws.proofs.Conversion.{equal_made_up, equal_rule}
use Rattle.kb_laws.proofs.CompletionLaws.{Members, proves_from, from_equations_of}
use Rattle.kb_laws.proofs.Cleaning.{clean_same, chain_well}

holds_all : (g : Signature) (rules : List Rule) → All (IsRuleOver g) rules → (r : Rule) → Contains rules r → (x : ℕ) → Occurs x r.right → Occurs x r.left
holds_all g rules over r i x o = let h = All-contains (IsRuleOver g) rules r over i in occurs_from x r.left (h.is_rule.holds_variables x (occurs_to x r.right o))

-- the critical pair lemma: where all overlaps are joinable, any two steps from one term are
pub critical_pair_lemma : (g : Signature) (rules : List Rule) → All (IsRuleOver g) rules → OverlapsJoin rules → (s t u : Tree) → Proving.Step rules s t → Proving.Step rules s u → IsJoinable rules t u
critical_pair_lemma g rules over joins s t u h k = joinable_to rules t u (steps_join (Contains rules) (peaks_join rules joins) (holds_all g rules over) u (step_from_position (Contains rules) s t h) (step_from_position (Contains rules) s u k))

-- Newman's lemma: terminating rules of which any two steps from one term are joinable are confluent
pub confluent_by_newman : (g : Signature) (rules : List Rule) → All (IsRuleOver g) rules → IsTerminating g rules → ((s t u : Tree) → IsWellFormed g s → Proving.Step rules s t → Proving.Step rules s u → IsJoinable rules t u) → IsConfluent g rules
confluent_by_newman g rules over halts local t u v w c d =
    let h = halts_from rules t (halts t w) in
    joinable_to rules u v (newman (Step (Contains rules)) (IsWellFormed g) (keeps_well g rules over)
    (λ x y z p s k. joinable_from rules y z (local x y z p (step_to_position (Contains rules) s) (step_to_position (Contains rules) k)))
    h.0 t w (bounded_from (Step (Contains rules)) h.0 t h.1) u v (reaches_from rules t u c) (reaches_from rules t v d))

-- terminating rules with joinable overlaps are confluent
pub confluent_by_overlaps : (g : Signature) (rules : List Rule) → All (IsRuleOver g) rules → IsTerminating g rules → OverlapsJoin rules → IsConfluent g rules
confluent_by_overlaps g rules over halts joins = confluent_by_newman g rules over halts (λ s t u w h k. critical_pair_lemma g rules over joins s t u h k)

-- Church-Rosser: where rules are confluent, terms over the signature that they prove equal are joinable
pub joinable_by_confluence : (g : Signature) (rules : List Rule) → All (IsRuleOver g) rules → IsConfluent g rules → (s t : Tree) → IsWellFormed g s → IsWellFormed g t → Proves (equations_of rules) s t → IsJoinable rules s t
joinable_by_confluence g rules over conf s t ws wt c =
    let e = equal_made_up (Members (equations_of rules)) (Contains rules) (λ r i. equal_rule (Contains rules) r (from_equations_of rules r i)) s t (proves_from (equations_of rules) s t c) in
    let k = subst₂ (Relation.Reaches (Within (IsWellFormed g) (Step (Contains rules)))) (clean_same g s ws) (clean_same g t wt) (chain_well g (Contains rules) (λ r i. let h = All-contains (IsRuleOver g) rules r over i in record { left = h.left; right = h.right }) e.0 s t e.1) in
    let j = church_rosser (Step (Contains rules)) (IsWellFormed g) (λ x w y z p q. joinable_from rules y z (conf x y z w (reaches_to rules x y p) (reaches_to rules x z q))) k.0 s t ws k.1 in
    joinable_to rules s t j
