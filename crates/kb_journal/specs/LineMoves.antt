-- What each line is a line of.
use Rattle.std.specs.Prelude.{ℕ, ◌≡◌}
use Rattle.kb_journal.specs.declared.entry_line.EntryLine.{EntryLine}
use Rattle.kb_journal.specs.declared.entry_line.EntryLine.TheVariants.{TakeReduce, TakeOrient, TakeOverlap, TakeClose, Facts, Rewrite, Oriented, Fork, Refused, Deduced, Unjoined, Closed, Over, Drop, Abandon}

-- of a take by the worker
abbrev pub IsTakeBy : ℕ → EntryLine → Type 0
IsTakeBy v (TakeReduce w t p n) = w ≡ v
IsTakeBy v (TakeOrient w t p n) = w ≡ v
IsTakeBy v (TakeOverlap w t p a b) = w ≡ v
IsTakeBy v (TakeClose w t p) = w ≡ v
IsTakeBy v l = ⊥

-- of a commit or a drop of the ticket
abbrev pub IsEndOf : ℕ → EntryLine → Type 0
IsEndOf n (Facts t k) = t ≡ n
IsEndOf n (Rewrite t m) = t ≡ n
IsEndOf n (Oriented t d) = t ≡ n
IsEndOf n (Fork t) = t ≡ n
IsEndOf n (Refused t) = t ≡ n
IsEndOf n (Deduced t k) = t ≡ n
IsEndOf n (Unjoined t k) = t ≡ n
IsEndOf n (Closed t) = t ≡ n
IsEndOf n (Over t r) = t ≡ n
IsEndOf n (Drop t p) = t ≡ n
IsEndOf n l = ⊥

-- of an abandon of the ticket
abbrev pub IsAbandonOf : ℕ → EntryLine → Type 0
IsAbandonOf n (Abandon t) = t ≡ n
IsAbandonOf n l = ⊥
