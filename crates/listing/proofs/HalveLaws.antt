-- All laws of halving. Assumes nothing.
use Rattle.listing.specs.HalvingLaws.{HalvingLaws}
use Rattle.listing.proofs.HalveWithin.{asks_within, ends_within}
use Rattle.listing.proofs.HalveReads.{reads_few, asks_few}
use Rattle.listing.proofs.HalveBill.{reads_by_bill}
use Rattle.listing.proofs.HalvePrefix.{reads_all}
use Rattle.listing.proofs.HalveAsked.{each_is_asked}
use Rattle.listing.proofs.HalveDeeper.{deeper_is_same}
use Rattle.listing.proofs.HalveGives.{gives_least_unfit, least_is_minimal, least_is_preferred}

pub halving_laws : HalvingLaws
halving_laws = (gives_least_unfit, least_is_minimal, least_is_preferred, asks_within, ends_within, reads_by_bill, reads_few, asks_few, reads_all, each_is_asked, deeper_is_same)
