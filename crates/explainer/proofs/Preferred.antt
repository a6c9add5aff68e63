-- Keep weight is an order at each width. Assumes nothing.
use Rattle.listing.proofs.Orders.{order_laws}
use Rattle.explainer.specs.Preferring.{AreOrders, preferring}

pub preferring_orders : AreOrders preferring
preferring_orders = order_laws.0
