-- How many messages and tape words a party has in all sessions.
use Rattle.std.specs.Prelude.{ℕ, ◌+◌, ◌*◌, length}
use Rattle.list_laws.specs.Lists.{total}
use Rattle.session_slots.specs.Counts.{outputs_read, prepared_products}
use Rattle.plan_model.specs.Plans.{Plan, session, words}
use Rattle.plan_model.specs.Messages.{deal_messages, open_messages, mask_messages, kept_messages}
use Rattle.plan_model.specs.Numbers.{deals}

-- how many openings there are to p in session s: the outputs that it reads, and two for each prepared product
abbrev pub openings : Plan → ℕ → ℕ → ℕ
openings plan p s = outputs_read (session plan s) p + 2 * prepared_products (session plan s)

-- how many messages p deals, and how many are opened to it, in all sessions
abbrev pub party_messages : Plan → ℕ → ℕ
party_messages plan p =
    length (deal_messages plan 0 0 p) * total (length plan.sessions) (deals plan p)
    + length (open_messages plan 0 0 p) * total (length plan.sessions) (openings plan p)

-- how many messages the masks have in all sessions
abbrev pub masks_messages : Plan → ℕ
masks_messages plan =
    length (mask_messages plan 0 0) * total (length plan.sessions) (λ s. 2 * prepared_products (session plan s))

-- how many messages the kept wires have in all sessions
abbrev pub keeping_messages : Plan → ℕ
keeping_messages plan =
    length (kept_messages plan 0 0) * total (length plan.sessions) (λ s. length (session plan s).kept)

-- how many tape words p draws in all sessions
abbrev pub tape_length : Plan → ℕ → ℕ
tape_length plan p = total (length plan.sessions) (words plan p)
