mod Listed
mod Knowing
mod Attacking
