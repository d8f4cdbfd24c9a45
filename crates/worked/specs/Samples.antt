-- Small sessions for the worked examples: 01 "Sums to check by hand", "parameters as above".
use Rattle.std.specs.Prelude.{ℕ, List, [], ◌∷◌, replicate}
use Rattle.terms.specs.Bounds.{trade_list_length}
use Rattle.terms.specs.Parameters.{start_with}
use Rattle.terms.specs.declared.orders.{Entry.Entry}
use Rattle.session.specs.declared.{Session.Session}
use Rattle.courses.specs.declared.{AuctionAnswer.AuctionAnswer}
use Rattle.session.specs.State.{fresh_session}
use Rattle.entries.specs.Entry.{started, entered}
use Rattle.answers.specs.Auctions.{auctioned}

-- step 100, factor 9, threshold 150, maximum 1,000,000,000,000, and a reference price
abbrev pub started_at : ℕ → Session
started_at reference = (started fresh_session (start_with (record { step = 100; reference = reference; factor = 9; threshold = 150; most = 1_000_000_000_000 }))).session

-- an entry of member 7: side (1 buy, 2 sell), validity, quantity, limit (0 unlimited)
abbrev pub entry : ℕ → ℕ → ℕ → ℕ → Entry
entry side validity quantity limit = record { member = 7; side = side; validity = validity; quantity = quantity; limit = limit }

-- day orders
abbrev pub buy : ℕ → ℕ → Entry
buy quantity price = entry 1 3 quantity price

abbrev pub sell : ℕ → ℕ → Entry
sell quantity price = entry 2 3 quantity price

abbrev pub buy_any : ℕ → Entry
buy_any quantity = entry 1 3 quantity 0

abbrev pub sell_any : ℕ → Entry
sell_any quantity = entry 2 3 quantity 0

-- the answer to one entry, and the session after several
abbrev pub entry_answer : ℕ → Entry → ℕ
entry_answer reference e = (entered (started_at reference) e).answer

abbrev pub enter : Session → List Entry → Session
enter s [] = s
enter s (e ∷ es) = enter (entered s e).session es

-- an auction (1 opening, 2 closing): its four numbers, and the session after it
abbrev pub auction_answered : ℕ → Session → AuctionAnswer
auction_answered which s = (auctioned s which (replicate trade_list_length 0)).returned.result

abbrev pub after : ℕ → Session → Session
after which s = (auctioned s which (replicate trade_list_length 0)).returned.session

-- the opening of a book of day orders, after a start with a reference price
abbrev pub opening_of : ℕ → List Entry → AuctionAnswer
opening_of reference es = auction_answered 1 (enter (started_at reference) es)

-- outcome, price, quantity, count of trades
abbrev pub numbers : ℕ → ℕ → ℕ → ℕ → AuctionAnswer
numbers outcome price quantity count = record { outcome = outcome; price = price; quantity = quantity; count = count }
