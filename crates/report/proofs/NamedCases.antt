-- The worked tickets, by computation. Assumes nothing.
use Rattle.std.specs.Prelude.{refl}
use Rattle.std.specs.Fmt.{digits}
use Rattle.std.specs.Int.Count.{count_trailing_zeros}
use Rattle.sets.specs.Members.{size, lower}
use Rattle.rules.specs.Rounds.{lowest}
use Rattle.rules.specs.Substitution.{free}
use Rattle.listing.specs.Bill.{bill}
use Rattle.listing.specs.Halving.{halve}
use Rattle.listing.specs.Orders.{sets_below, foremost}
use Rattle.listing.specs.Turns.{turn}
use Rattle.report.specs.Ends.{finish}
use Rattle.report.specs.Named.{AnswersA, AnswersAWithTen, AnswersAWithNine, RefusesNought, AnswersApart, AnswersRing, AnswersFaces, AnswersHouse, AnswersNothing, NamedCases}
use Rattle.report.specs.Texts.{set_text}

-- what is read shows that the ticket is refused
refuses_nought : RefusesNought
unfolding digits
refuses_nought = refl

-- the reading, the listing and the text of each of the others
answers_a : AnswersA
unfolding digits size lower bill halve sets_below foremost turn finish lowest free set_text
answers_a = refl

answers_a_with_ten : AnswersAWithTen
unfolding digits size lower bill halve sets_below foremost turn finish lowest free set_text
answers_a_with_ten = refl

answers_a_with_nine : AnswersAWithNine
unfolding digits size lower bill halve sets_below foremost turn finish lowest free set_text
answers_a_with_nine = refl

answers_apart : AnswersApart
unfolding digits size lower bill halve sets_below foremost turn finish lowest free set_text
answers_apart = refl

answers_ring : AnswersRing
unfolding digits size lower bill halve sets_below foremost turn finish lowest free set_text
answers_ring = refl

answers_faces : AnswersFaces
unfolding digits size lower bill halve sets_below foremost turn finish lowest free count_trailing_zeros set_text
answers_faces = refl

answers_house : AnswersHouse
unfolding digits size lower bill halve sets_below foremost turn finish lowest free set_text
answers_house = refl

answers_nothing : AnswersNothing
unfolding digits size lower bill halve sets_below foremost turn finish lowest free set_text
answers_nothing = refl

-- all of them
pub named_cases : NamedCases
named_cases = (answers_a, answers_a_with_ten, answers_a_with_nine, refuses_nought, answers_apart, answers_ring, answers_faces, answers_house, answers_nothing)
