-- Who falls asleep or wakes, on boards that differ in who sleeps or what flies.
use Rattle.std.proofs.Common.{ℕ, ◌-◌, ◌≡◌, ap, List, [], ◌∷◌, length, Ordering}
use Rattle.std.specs.Fn.{iterate}
use Rattle.std.specs.Option.{option_map_or}
use Rattle.std.specs.Ordering.{ordering_then, nat_cmp}
use Rattle.kb_label.specs.Names.{Name, name_cmp, add, minus}
use Rattle.mkb_model.specs.Jobs.{greatest, least}
use Rattle.mkb_model.specs.Plain.{Plain}
use Rattle.mkb_model.specs.Sleeping.{most_awake, settled, waiting, with_one_asleep, with_one_awake, working}
use Rattle.mkb_model.specs.declared.entry.Ticket.{Ticket}
use Rattle.mkb_agenda.proofs.Sleeping.{cost_alike}

-- ---- by the costs of the processes

abbrev by_cost : (Name → ℕ) → Name → Name → Ordering
by_cost c p q = ordering_then (nat_cmp (c p) (c q)) (name_cmp p q)

abbrev one_asleep : (Name → ℕ) → Plain → List Name → List Name
one_asleep c b l = option_map_or (λ p. add p l) (greatest (by_cost c) (working b l)) l

abbrev one_awake : (Name → ℕ) → Plain → List Name → List Name
one_awake c b l = option_map_or (λ p. minus l (p ∷ [])) (least (by_cost c) (waiting b l)) l

abbrev rested_by : (Name → ℕ) → Plain → List Name
rested_by c b = iterate (one_asleep c b) (length (working b b.asleep) - most_awake) b.asleep

abbrev settled_by : (Name → ℕ) → Plain → List Name
settled_by c b = iterate (one_awake c b) (most_awake - length (working b (rested_by c b))) (rested_by c b)

-- ---- what flies, and who sleeps

pub settled_flying : (b : Plain) (f : List Ticket) → settled (record b { flight = f }) ≡ settled b
settled_flying b f = ap (λ c. settled_by c b) (cost_alike b f b.asleep)

pub asleep_at : (b : Plain) (a l : List Name) → with_one_asleep (record b { asleep = a }) l ≡ with_one_asleep b l
asleep_at b a l = ap (λ c. one_asleep c b l) (cost_alike b b.flight a)

pub awake_at : (b : Plain) (a l : List Name) → with_one_awake (record b { asleep = a }) l ≡ with_one_awake b l
awake_at b a l = ap (λ c. one_awake c b l) (cost_alike b b.flight a)
