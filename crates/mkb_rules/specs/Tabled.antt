-- Facts that are found by what they are about.
use Rattle.std.specs.Prelude.{◌≡◌, ℕ, ◌+◌, ◌*◌, ◌<◌, ◌≤◌, Bool, true, ◌&&◌, nat_le, List, [], length, get_or, Option, Some, None, option_and_then}
use Rattle.kb_term.specs.declared.origin.RuleRef.{RuleRef}
use Rattle.kb_term.specs.declared.origin.Found.{Found}
use Rattle.kb_node.specs.declared.job.Fact.{Fact}
use Rattle.mkb_rules.specs.Parts.{known_in}
use Rattle.mkb_rules.specs.Ranks.{rank_at, IsFree}

-- the first of two where there is one, else the second
abbrev pub or_else : {X : Type 0} → Option X → Option X → Option X
or_else (Some x) o = Some x
or_else None o = o

-- the number of a side of a node, or of a rule in a direction of it
abbrev pub place : ℕ → ℕ → ℕ
place n w = 2 * n + w

-- what the row of the side with this number has at this rank
abbrev pub cell_at : List (List (Option Found)) → ℕ → ℕ → Option Found
cell_at rows i r = get_or (get_or rows i []) r None

-- what the row of the side with this number has at the rank of the rule with that number
abbrev pub known_at : List (Option ℕ) → List (List (Option Found)) → ℕ → ℕ → Option Found
known_at ranks rows i j = option_and_then (cell_at rows i) (rank_at ranks j)

-- what the row of a side has at the rank of the rule
abbrev pub known_by : List (Option ℕ) → List (Option Found) → RuleRef → Option Found
known_by ranks cells a = option_and_then (λ r. get_or cells r None) (rank_at ranks (place a.node a.dir))

-- these are the rows of the two sides of the node: they have what the first of the facts about the side and each rule says
pub record AreRowsOf (fs : List Fact) (n : ℕ) (ranks : List (Option ℕ)) (first second : List (Option Found)) : Type 0 where
  pub on_first : (a : RuleRef) → a.dir ≤ 1 → known_by ranks first a ≡ known_in fs n 0 a
  pub on_second : (a : RuleRef) → a.dir ≤ 1 → known_by ranks second a ≡ known_in fs n 1 a

-- the rule with the second number has a rank, for which the row of the side with the first one has room
pub record IsRoom (ranks : List (Option ℕ)) (rows : List (List (Option Found))) (i j : ℕ) : Type 0 where
  pub rank : ℕ
  pub given : rank_at ranks j ≡ Some rank
  pub row : i < length rows
  pub cell : rank < length (get_or rows i [])

-- the fact is about one of two sides, and a rule of one of two directions
abbrev pub is_plain : Fact → Bool
is_plain f = nat_le f.side 1 && nat_le f.rule.dir 1

-- there is room for a fact that is about one of two sides and directions
abbrev pub HasRoom : List (Option ℕ) → List (List (Option Found)) → Fact → Type 0
HasRoom ranks rows f = is_plain f ≡ true → IsRoom ranks rows (place f.node.0 f.side) (place f.rule.node f.rule.dir)

-- the second rows have at least the room of the first ones, and what these have
pub record IsWider (old new : List (List (Option Found))) : Type 0 where
  pub rows : length old ≤ length new
  pub rooms : (i : ℕ) → length (get_or old i []) ≤ length (get_or new i [])
  pub kept : (i r : ℕ) → cell_at new i r ≡ cell_at old i r

-- the rows have what the first of the facts about each side and rule says, and nothing at ranks that no rule has
pub record IsTabled (ranks : List (Option ℕ)) (rows : List (List (Option Found))) (fs : List Fact) : Type 0 where
  pub known : (n w : ℕ) (a : RuleRef) → w ≤ 1 → a.dir ≤ 1 → known_at ranks rows (place n w) (place a.node a.dir) ≡ known_in fs n w a
  pub free : (i r : ℕ) → IsFree ranks r → cell_at rows i r ≡ None
