-- Overlaps whose sides have one normal form by the strategy are joinable.
use Rattle.std.proofs.Common.{List, [], ◌∷◌}
use Rattle.kb_rewrite.proofs.Irreducible.{step_from}
use Rattle.kb_term.specs.Tree.{Tree}
use Rattle.kb_term.specs.Rule.{Rule}
use Rattle.kb_term.specs.Proving.{IsPath, Step, IsJoinable}
use Rattle.kb_rewrite.specs.NormalForm.{StrategyStep}
use Rattle.kb_laws.specs.Overlaps.{OverlapsJoin, OverlapsClose, HaveOneNormalForm}

strategy_path : (rules : List Rule) (path : List Tree) (s t : Tree) → IsPath (StrategyStep rules) path s t → IsPath (Step rules) path s t
strategy_path rules [] s t e = e
strategy_path rules (u ∷ path) s t (h, k) = (step_from rules s u h, strategy_path rules path u t k)

pub joined : (rules : List Rule) (s t : Tree) → HaveOneNormalForm rules s t → IsJoinable rules s t
joined rules s t (u, m, n, c, d) = (u, (c.0, strategy_path rules c.0 s u c.1.0), (d.0, strategy_path rules d.0 t u d.1.0))

-- overlaps that normalise to one term are joinable
pub closed_joins : (rules : List Rule) → OverlapsClose rules → OverlapsJoin rules
closed_joins rules h i j A B e d =
    let r = h i j A B e d in
    (r.0, r.1, λ o c. let q = r.2 o c in (q.0, q.1, q.2, joined rules q.0 q.1 q.3))
