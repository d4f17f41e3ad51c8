mod NewSeats
mod FirstParts
mod OneProduct
mod OneSession
mod ProductCircuit
mod ProductPlans
