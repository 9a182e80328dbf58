mod Members
mod Rising
mod Joining
mod Places
