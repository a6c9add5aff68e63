-- What an entry says of its line. Assumes nothing.
use Rattle.std.specs.Prelude.{◌≡◌, ℕ, List, Some, None, codes}
use Rattle.fields.specs.Cuts.{after}
use Rattle.ticket.specs.Entries.{key, lettered}
use Rattle.ticket.specs.declared.entry.Entry.{Entry}
use Rattle.ticket.specs.declared.entry.Entry.TheVariants.{Header, Rule, End}
use Rattle.fields.specs.declared.layout.Heading.{Heading}

-- the line of this number begins with the entry's key, and its value follows
abbrev pub Says : (line : ℕ) → List ℕ → Entry → Type 0
Says line text (Header heading n value) = (n ≡ line) × (after (key heading) text ≡ Some value.now)
Says line text (Rule kind n value) = (n ≡ line) × (lettered text ≡ Some (kind, value.now))
Says line text (End n value) = (n ≡ line) × (after (codes "end=") text ≡ Some value.now)

-- the line begins with no key
pub record Unknown (text : List ℕ) : Type 0 where
  pub header : (h : Heading) → after (key h) text ≡ None
  pub rule : lettered text ≡ None
  pub end : after (codes "end=") text ≡ None
