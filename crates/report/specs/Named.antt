-- The worked tickets, each with its report. Assumes nothing.
use Rattle.std.specs.Prelude.{◌≡◌, ℕ, List, ◌++◌, codes}
use Rattle.report.specs.Explained.{explained}

-- the ticket that begins so, with these lines of rules, is answered so
abbrev pub IsAnsweredBy : (headers rules report : List ℕ) → Type 0
IsAnsweredBy headers rules report = explained (headers ++ (rules ++ codes "end=ticket\n")) ≡ report

-- the rules of ticket A: three requests, of which 1 excludes 2 and 3
abbrev pub rules_of_a : List ℕ
rules_of_a = codes "h=0,-,0,1\nh=0,-,1,2\nh=1,1\nh=2,0\nh=3,2\n"

-- and its report
abbrev pub report_of_a : List ℕ
report_of_a = codes "requests=3\nconflict=1,2\nconflict=1,3\nrelaxation=1\nrelaxation=2,3\nchecks=10\nbound=21\nended=all\n"

-- with a hundred checks
abbrev pub AnswersA : Type 0
AnswersA = IsAnsweredBy (codes "ticket=1\nrequests=3\nchecks=100\nrules=5\n") rules_of_a report_of_a

-- with ten checks the report is the same
abbrev pub AnswersAWithTen : Type 0
AnswersAWithTen = IsAnsweredBy (codes "ticket=1\nrequests=3\nchecks=10\nrules=5\n") rules_of_a report_of_a

-- with nine the last line is missing
abbrev pub AnswersAWithNine : Type 0
AnswersAWithNine =
    IsAnsweredBy (codes "ticket=1\nrequests=3\nchecks=9\nrules=5\n") rules_of_a
    (codes "requests=3\nconflict=1,2\nconflict=1,3\nrelaxation=1\nchecks=9\nbound=20\nended=spent,1\n")

-- a number that begins with nought is refused
abbrev pub RefusesNought : Type 0
RefusesNought = IsAnsweredBy (codes "ticket=1\nrequests=03\nchecks=100\nrules=5\n") rules_of_a (codes "refused=5,2,1\n")

-- mark 1 lies at most 250.0 mm above mark 0, and the request asks for at least 260.0 mm: it is a conflict
abbrev pub AnswersApart : Type 0
AnswersApart =
    IsAnsweredBy (codes "ticket=1\nrequests=1\nchecks=100\nrules=2\n") (codes "g=0,1,0,2500\ng=1,0,1,-2600\n")
    (codes "requests=1\nconflict=1\nrelaxation=-\nchecks=3\nbound=3\nended=all\n")

-- the request asks for at least 250.0 mm: a ring of gaps that adds up to nought can be met
abbrev pub AnswersRing : Type 0
AnswersRing =
    IsAnsweredBy (codes "ticket=1\nrequests=1\nchecks=100\nrules=2\n") (codes "g=0,1,0,2500\ng=1,0,1,-2500\n")
    (codes "requests=1\nrelaxation=1\nchecks=2\nbound=2\nended=all\n")

-- three sums of faces of which each two can be met, and not all three
abbrev pub AnswersFaces : Type 0
AnswersFaces =
    IsAnsweredBy (codes "ticket=1\nrequests=3\nchecks=100\nrules=3\n") (codes "f=1,1,0,1\nf=2,1,1,2\nf=3,1,0,2\n")
    (codes "requests=3\nconflict=1,2,3\nrelaxation=1,2\nrelaxation=1,3\nrelaxation=2,3\nchecks=9\nbound=17\nended=all\n")

-- rules of the house that cannot be met together
abbrev pub AnswersHouse : Type 0
AnswersHouse =
    IsAnsweredBy (codes "ticket=1\nrequests=2\nchecks=100\nrules=2\n") (codes "h=0,0\nh=0,-,0\n") (codes "requests=2\nconflict=-\nchecks=1\nbound=2\nended=all\n")

-- no request, and no rule
abbrev pub AnswersNothing : Type 0
AnswersNothing =
    IsAnsweredBy (codes "ticket=1\nrequests=0\nchecks=100\nrules=0\n") (codes "") (codes "requests=0\nrelaxation=-\nchecks=2\nbound=2\nended=all\n")

-- all of these
abbrev pub NamedCases : Type 0
NamedCases =
    AnswersA × AnswersAWithTen × AnswersAWithNine × RefusesNought × AnswersApart × AnswersRing × AnswersFaces × AnswersHouse × AnswersNothing
