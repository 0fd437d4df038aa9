-- The command line of `threads`: what its words ask for, and why they are refused.
use Rattle.std.specs.Prelude.{◌≡◌, ◌⊎◌, ℕ, ◌==◌, Bool, false, ◌&&◌, ◌||◌, if◌then◌else◌, not, nat_le, nat_lt, Option, Some, None, Result, Ok, Err, List, [], ◌∷◌, length, codes, option_map}
use Rattle.std.specs.List.{before_first, after_first, list_any}
use Rattle.clap.specs.Matches.{first_value, found_of, matched_of, raw_values}
use Rattle.clap.specs.declared.parser.matches.ArgMatches.{ArgMatches}
use Rattle.async_pool.specs.declared.crew.TheConstants.{MOST_WORKERS}
use Rattle.publisher_hub.specs.declared.hub.TheConstants.{USUAL_LIVE}
use Rattle.commands.specs.Number.{spelled_code, spelled_digits, spelled_number}
use Rattle.lines_demo.specs.Prelude.{Refusal}
use Rattle.commands.specs.Word.{is_word, spelled_name}
use Rattle.lines_demo.specs.declared.threads.plan.NamedDemand.{NamedDemand}
use Rattle.lines_demo.specs.declared.threads.plan.NamedFailure.{NamedFailure}

-- a plan: how many workers there are, which capacity is asked for, the subscribers in their order,
-- and which of them fails, if one does
pub record PlanState : Type 0 where
  pub workers : ℕ
  pub capacity : ℕ
  pub subscribers : List NamedDemand
  pub fail : Option NamedFailure

-- a colon
abbrev pub is_colon : ℕ → Bool
is_colon byte = byte == 58

-- a subscriber of a name and a demand, if both are there
abbrev pub named_demand : Option (List ℕ) → Option ℕ → Option NamedDemand
named_demand None demand = None
named_demand (Some name) None = None
named_demand (Some name) (Some demand) = Some (record { name = name; demand = demand })

-- the subscriber that a word `NAME:D` spells, if it spells one
unfoldable pub spelled_subscriber : List ℕ → Option NamedDemand
spelled_subscriber word = named_demand (spelled_name (before_first is_colon word))
    (spelled_number (after_first is_colon word))

-- a subscriber before others, if all are there
abbrev pub before_others : Option NamedDemand → Option (List NamedDemand)
    → Option (List NamedDemand)
before_others None others = None
before_others (Some subscriber) None = None
before_others (Some subscriber) (Some others) = Some (subscriber ∷ others)

-- the subscribers that the words spell, if each of them spells one
abbrev pub spelled_subscribers : List (List ℕ) → Option (List NamedDemand)
spelled_subscribers [] = Some []
spelled_subscribers (word ∷ words) =
    before_others (spelled_subscriber word) (spelled_subscribers words)

-- the name is that of one of these
abbrev pub is_among : List ℕ → List NamedDemand → Bool
is_among name subscribers = list_any (λ (s : NamedDemand). is_word s.name name) subscribers

-- a name stands twice
abbrev pub has_twice : List NamedDemand → Bool
has_twice [] = false
has_twice (first ∷ others) = is_among first.name others || has_twice others

-- a failure of a name, an item from 1 on and a code, if all three are there
abbrev pub named_failure : Option (List ℕ) → Option ℕ → Option ℕ → Option NamedFailure
named_failure None item code = None
named_failure (Some name) None code = None
named_failure (Some name) (Some item) None = None
named_failure (Some name) (Some item) (Some code) =
    if item == 0 then None else Some (record { name = name; item = item; code = code })

-- the failure that a word `NAME:K:C` spells, if it spells one
unfoldable pub spelled_failure : List ℕ → Option NamedFailure
spelled_failure word =
    let rest = after_first is_colon word in
    named_failure (spelled_name (before_first is_colon word))
    (spelled_number (before_first is_colon rest)) (spelled_code (after_first is_colon rest))

-- the one that is there, or a wrong command
abbrev pub ok_if_some : Option NamedFailure → Result (Option NamedFailure) Refusal
ok_if_some None = Err Refusal.BadCommand
ok_if_some (Some failure) = Ok (Some failure)

-- the failure that the option `--fail` spells, if it is there
abbrev pub fail_of : Option (List ℕ) → Result (Option NamedFailure) Refusal
fail_of None = Ok None
fail_of (Some word) = ok_if_some (spelled_failure word)

-- a subscriber is to fail whose name is that of none of these
abbrev pub is_unknown : Option NamedFailure → List NamedDemand → Bool
is_unknown None subscribers = false
is_unknown (Some failure) subscribers = not (is_among failure.name subscribers)

-- 1 to 8 workers
abbrev pub is_worker_count : ℕ → Bool
is_worker_count workers = nat_le 1 workers && nat_le workers MOST_WORKERS

-- the plan of these numbers, subscribers and failure, or the first of its refusals
abbrev pub checked_plan : ℕ → ℕ → List NamedDemand → Option NamedFailure → Result PlanState Refusal
checked_plan workers capacity subscribers fail =
    if is_worker_count workers then
    (if capacity == 0 then Err Refusal.BadCapacity
    else (if has_twice subscribers then Err Refusal.Duplicate
    else (if nat_lt USUAL_LIVE (length subscribers) then Err Refusal.TooMany
    else (if is_unknown fail subscribers then Err Refusal.Unknown
    else Ok (record {
      workers = workers;
      capacity = capacity;
      subscribers = subscribers;
      fail = fail;
    })))))
    else Err Refusal.BadWorkers

-- the plan of a number of workers, a capacity and subscribers, if all three are spelled
abbrev pub plan_of_parts : Option ℕ → Option ℕ → Option (List NamedDemand) → Option NamedFailure
    → Result PlanState Refusal
plan_of_parts None capacity subscribers fail = Err Refusal.BadCommand
plan_of_parts (Some workers) None subscribers fail = Err Refusal.BadCommand
plan_of_parts (Some workers) (Some capacity) None fail = Err Refusal.BadCommand
plan_of_parts (Some workers) (Some capacity) (Some subscribers) fail =
    checked_plan workers capacity subscribers fail

-- the plan that the values of `--workers` and `--cap` and the words `NAME:D` spell, with this
-- failure, or the first of its refusals
unfoldable pub plan_of : List ℕ → List ℕ → List (List ℕ) → Option NamedFailure
    → Result PlanState Refusal
plan_of workers capacity words fail =
    plan_of_parts (spelled_digits workers) (spelled_digits capacity) (spelled_subscribers words)
    fail

-- the plan that the values of a command line spell, if it has all but the failure, which may be
-- missing
abbrev pub plan_of_values : Option (List ℕ) → Option (List ℕ) → Option (List (List ℕ))
    → Result (Option NamedFailure) Refusal → Result PlanState Refusal
plan_of_values None capacity words fail = Err Refusal.BadCommand
plan_of_values (Some workers) None words fail = Err Refusal.BadCommand
plan_of_values (Some workers) (Some capacity) None fail = Err Refusal.BadCommand
plan_of_values (Some workers) (Some capacity) (Some words) (Err refusal) = Err refusal
plan_of_values (Some workers) (Some capacity) (Some words) (Ok fail) =
    plan_of workers capacity words fail

-- the plan that a command line spells, once it is read: by the first value of each option, and by all words `NAME:D`
abbrev pub plan_of_matches : ArgMatches → Result PlanState Refusal
plan_of_matches matches =
    let found = found_of matches in
    plan_of_values (first_value found (codes "workers")) (first_value found (codes "cap"))
    (option_map raw_values (matched_of found (codes "subscribers")))
    (fail_of (first_value found (codes "fail")))

-- this answer, but if memory was refused
abbrev pub IsOrLacksMemory : {T : Type 0} → Result T Refusal → Result T Refusal → Type 0
IsOrLacksMemory result answer = (result ≡ answer) ⊎ (result ≡ Err Refusal.NoMemory)
